-- The line of a step.
use Rattle.std.specs.Prelude.{ℕ, ◌≤◌, List, [], ◌∷◌, ◌++◌, drop, Bool, cond, ◌&&◌, nat_le, Option, Some, None, codes, decimal}
use Rattle.std.specs.List.{flat_map}
use Rattle.ft_types.specs.Text.{line, word}
use Rattle.input_log.specs.declared.Input.{Input}
use Rattle.rv32_hart.specs.Hart.{Hart, csr_words}
use Rattle.step_lines.specs.declared.line.Found.{Found}
use Rattle.step_lines.specs.Parts.{named, some_named, bytes_text, input_text}
use Rattle.step_lines.specs.Changes.{changed_texts, register_name, csr_name, ring_text, has_entered}

abbrev pub front_text : Hart → List ℕ
front_text h = codes "step " ++ decimal h.count ++ codes " pc " ++ word h.pc

-- the word that was fetched: none where an interrupt was entered
abbrev pub fetched : Hart → Hart → Option ℕ → Option ℕ
fetched before after word = cond (has_entered before after && nat_le 0x80000000 after.csrs.mcause) None word

-- what the step used of RAM
abbrev pub used_text : Option ℕ → Found → List ℕ
used_text fetched found = some_named (codes "fetch") fetched ++ bytes_text (codes "read") found.read ++ bytes_text (codes "write") found.written

-- registers and CSRs that have another word than before
abbrev pub changes_text : Hart → Hart → List ℕ
changes_text before after =
    changed_texts register_name 1 (drop 1 before.registers) (drop 1 after.registers) ++ changed_texts csr_name 0 (csr_words before) (csr_words after)

abbrev pub halt_text : Bool → List ℕ
halt_text halted = cond halted (codes " halt") []

-- what the step made
abbrev pub made_text : Hart → Hart → Option ℕ → List ℕ
made_text before after output =
    changes_text before after ++ some_named (codes "out") output ++ ring_text 0 before.rung after.rung ++ halt_text after.halted

-- the cause of the trap that was entered
abbrev pub trap_text : Hart → Hart → List ℕ
trap_text before after = cond (has_entered before after) (named (codes "trap") after.csrs.mcause) []

-- what the fetched word says
abbrev pub mnemonic_text : Option ℕ → List ℕ → List ℕ
mnemonic_text None mnemonic = []
mnemonic_text (Some fetched) mnemonic = codes " : " ++ mnemonic

-- A step on these inputs leads the hart from the first state to the second; at its pc stands the word, if that is in RAM.
abbrev pub step_line : Hart → List Input → Hart → Option ℕ → Found → List ℕ → List ℕ
step_line before inputs after word found mnemonic =
    line (front_text before ++ flat_map input_text inputs ++ used_text (fetched before after word) found ++ made_text before after found.output
    ++ trap_text before after ++ mnemonic_text (fetched before after word) mnemonic)
