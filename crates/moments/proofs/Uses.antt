-- What a hart's step uses, from what the code looks at.
use Rattle.std.proofs.Common.{◌≡◌, ◌↔◌, ℕ, ◌+◌, ◌%◌, ◌^◌, ◌==◌, ◌&&◌, List, [], length, slice_get, slice_index, slice_index_or, Bool, true, false, true≢false, Option, Some, None, IsTrue, IsSome, if◌then◌else◌, refl, ap, sym, subst, ◌∙◌}
use Rattle.input_log.specs.declared.Input.{Input}
use Rattle.rv32_isa.specs.declared.instruction.Instr.{Instr}
use Rattle.rv32_isa.specs.declared.instruction.Instr.TheVariants.{Load, Store, Amo}
use Rattle.rv32_isa.specs.Decode.{decode_of}
use Rattle.rv32_hart.specs.Hart.{Hart}
use Rattle.rv32_hart.specs.Ram.{word_at}
use Rattle.rv32_hart.specs.Csrs.{interrupt_of, received_all}
use Rattle.rv32_hart.specs.Access.{in_ram, page_at, offset_at, load_width, store_width}
use Rattle.plan_lines.specs.declared.access.Access.{Access}
use Rattle.plan_lines.specs.declared.access.Access.TheVariants.{Nothing, Reads, Writes, Changes}
use Rattle.plan_lines.specs.Uses.{used_at, used_by, used_by_word, used_in, used_next, unless_interrupted}
use Rattle.least_cuts.proofs.Legs.{some_is}
use Rattle.plan_lines.proofs.Interrupts.{received_pc, received_registers}

if_yes : {A : Type 0} (b : Bool) (x y z : A) → b ≡ true → z ≡ x → z ≡ (if b then x else y)
if_yes true x y z is same = same
if_yes false x y z is same = cc

if_no : {A : Type 0} (b : Bool) (x y z : A) → b ≡ false → z ≡ y → z ≡ (if b then x else y)
if_no true x y z is same = cc
if_no false x y z is same = same

-- inputs change no register, so they don't change what an instruction uses
word_of : List ℕ → ℕ → ℕ
word_of registers r = if r == 0 then 0 else slice_index registers r

same_use : (i : Instr) (pages : ℕ) (h k : Hart) → k.registers ≡ h.registers → used_by i pages h ≡ used_by i pages k
unfolding word_of
same_use (Load kind rd rs1 imm) pages h k same =
    ap (λ (registers : List ℕ). used_at Reads pages ((word_of registers rs1 + imm) % 2 ^ 32) (load_width kind)) (sym same)
same_use (Store kind rs1 rs2 imm) pages h k same =
    ap (λ (registers : List ℕ). used_at Writes pages ((word_of registers rs1 + imm) % 2 ^ 32) (store_width kind)) (sym same)
same_use (Amo op rd rs1 rs2 aq rl) pages h k same = ap (λ (registers : List ℕ). used_at Changes pages (word_of registers rs1) 4) (sym same)
same_use _ pages h k same = refl

same_word : (o : Option Instr) (pages : ℕ) (h k : Hart) → k.registers ≡ h.registers → used_by_word o pages h ≡ used_by_word o pages k
same_word None pages h k same = refl
same_word (Some i) pages h k same = same_use i pages h k same

-- what holds of the hart that was found holds of each that is found there
pub of_found : (harts : List Hart) (hart : ℕ) (state : Hart) (P : Hart → Type 0) → slice_get harts hart ≡ Some state → P state → (h : Hart) →
    slice_get harts hart ≡ Some h → P h
of_found harts hart state P was holds h found = subst P (some_is state h (sym was ∙ found)) holds

-- ---- the step of a hart that receives these inputs, and takes no interrupt

module _ (contents : List (List ℕ)) (inputs : List Input) (state : Hart) (taken : Bool)
    (exact : IsTrue taken ↔ IsSome (interrupt_of (received_all inputs state))) (calm : taken ≡ false) (pages pc : ℕ) (pages_is : pages ≡ length contents)
    (pc_is : pc ≡ state.pc) where
  fetches : used_in contents (received_all inputs state) ≡ used_next contents (received_all inputs state)
  fetches = of (interrupt_of (received_all inputs state)) exact.1
    where
      of : (o : Option ℕ) → (IsSome o → IsTrue taken) → used_in contents (received_all inputs state) ≡ unless_interrupted o contents (received_all inputs state)
      of (Some cause) so = absurd (true≢false (sym (so refl) ∙ calm))
      of None so = refl

  pc_there : pc ≡ (received_all inputs state).pc
  pc_there = pc_is ∙ sym (received_pc inputs state)

  guard_is : ((pc % 4 == 0) && in_ram pages pc) ≡ (((received_all inputs state).pc % 4 == 0) && in_ram (length contents) (received_all inputs state).pc)
  guard_is =
      ap (λ (many : ℕ). (pc % 4 == 0) && in_ram many pc) pages_is ∙ ap (λ (at : ℕ). (at % 4 == 0) && in_ram (length contents) at) pc_there

  abbrev fetched : Access
  fetched =
      used_by_word
      (decode_of (word_at (slice_index_or contents (page_at (received_all inputs state).pc) []) (offset_at (received_all inputs state).pc)))
      (length contents) (received_all inputs state)

  abbrev guard : Bool
  guard = ((received_all inputs state).pc % 4 == 0) && in_ram (length contents) (received_all inputs state).pc

  pub used_outside : ((pc % 4 == 0) && in_ram pages pc) ≡ false → Nothing ≡ used_next contents (received_all inputs state)
  used_outside outside = if_no guard fetched Nothing Nothing (sym guard_is ∙ outside) refl ∙ fetches

  pub used_fetched : ((pc % 4 == 0) && in_ram pages pc) ≡ true → (page offset word : ℕ) → page ≡ page_at pc → offset ≡ offset_at pc →
      word ≡ word_at (slice_index_or contents page []) offset → (instr : Option Instr) → instr ≡ decode_of word → (used : Access) →
      used ≡ used_by_word instr (length contents) state → used ≡ used_next contents (received_all inputs state)
  used_fetched inside page offset word page_at_is offset_at_is word_is instr instr_is used used_is =
      if_yes guard fetched Nothing used (sym guard_is ∙ inside) (
      used_is
      ∙ ap (λ (o : Option Instr). used_by_word o (length contents) state) (
      instr_is
      ∙ ap decode_of (
      word_is
      ∙ ap (λ (p : ℕ). word_at (slice_index_or contents p []) offset) (page_at_is ∙ ap page_at pc_there)
      ∙ ap (word_at (slice_index_or contents (page_at (received_all inputs state).pc) [])) (offset_at_is ∙ ap offset_at pc_there)
      )
      )
      ∙ same_word
      (decode_of (word_at (slice_index_or contents (page_at (received_all inputs state).pc) []) (offset_at (received_all inputs state).pc)))
      (length contents) state (received_all inputs state) (received_registers inputs state)
      )
      ∙ fetches
