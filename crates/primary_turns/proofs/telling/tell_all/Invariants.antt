use Rattle.std.proofs.Common.{◌≡◌, ◌++◌, map, take}
use Rattle.primary_turns.specs.Deeds.{noted}
use Rattle.primary_turns.specs.declared.deeds.Deed.TheVariants.{Tell}
use Rattle.primary_turns.proofs.telling.tell_all.Given as goal

abbrev pub invariant-loop-answer : goal.invariant-loop-answer
invariant-loop-answer l =
    (l.deeds.items ≡ l.fn.deeds.items ++ take l.answer-index (map Tell l.answers)) × (l.told ≡ noted l.fn.told (take l.answer-index (map Tell l.answers)))
