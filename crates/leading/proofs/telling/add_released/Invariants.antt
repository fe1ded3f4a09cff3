use Rattle.std.proofs.Common.{◌≡◌, ◌++◌, filter, map, take}
use Rattle.leading.specs.Telling.{told_in, is_from}
use Rattle.leading.proofs.telling.add_released.Given as goal

abbrev pub invariant-loop-one : goal.invariant-loop-one
invariant-loop-one l =
    l.answers.items ≡ l.fn.answers.items ++ told_in l.term (filter (is_from l.hart l.number) (map (λ r. r.output) (take l.one-index l.released)))
