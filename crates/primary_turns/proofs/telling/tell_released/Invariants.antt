use Rattle.std.proofs.Common.{◌≡◌, ◌++◌, map, take}
use Rattle.primary_turns.specs.Deeds.{noted}
use Rattle.primary_turns.proofs.Adding.{told_one}
use Rattle.primary_turns.proofs.telling.tell_released.Given as goal

abbrev pub invariant-loop-one : goal.invariant-loop-one
invariant-loop-one l =
    (l.deeds.items ≡ l.fn.deeds.items ++ take l.one-index (map (told_one l.term) l.released)) ×
    (l.told ≡ noted l.fn.told (take l.one-index (map (told_one l.term) l.released)))
