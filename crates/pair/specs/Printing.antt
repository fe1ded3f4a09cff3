-- What a pair prints.
use Rattle.std.specs.Prelude.{ℕ, List, ◌++◌, codes, decimal}
use Rattle.std.specs.List.{flat_map}
use Rattle.ft_types.specs.Text.{line, word}
use Rattle.guest_image.specs.Machine.{MachineState}
use Rattle.guest_image.specs.Text.{machine_text}
use Rattle.ft_types.specs.declared.output.Output.{Output}
use Rattle.pair.specs.declared.threads.PairEnd.{PairEnd}
use Rattle.pair.specs.declared.warm.WarmEnd.{WarmEnd}

-- an output that went out
unfoldable pub output_line : Output → List ℕ
output_line o = codes "released hart " ++ decimal o.hart ++ codes " number " ++ decimal o.number
    ++ line (codes " step " ++ decimal o.step ++ codes " word " ++ word o.word)

-- how many outputs did not
unfoldable pub kept_line : ℕ → List ℕ
kept_line kept = line (codes "kept " ++ decimal kept)

-- what went out, how many outputs did not, and the primary's machine
abbrev pub parts_text : List Output → ℕ → MachineState → List ℕ
parts_text released kept machine = flat_map output_line released ++ (kept_line kept ++ machine_text machine)

abbrev pub pair_text : PairEnd → List ℕ
pair_text end = parts_text end.released.items end.kept end.book.machine

-- the term of the primary that went live, and how many steps were replayed for it
unfoldable pub live_line : ℕ → List ℕ
live_line steps = line (codes "live term 2 replayed " ++ decimal steps)

-- what a pair with a warm keeper came to, and the new primary's machine
abbrev pub warm_text : WarmEnd → List ℕ
warm_text end = parts_text end.released.items end.kept end.book.machine ++ (live_line end.steps ++ machine_text end.live.book.machine)
