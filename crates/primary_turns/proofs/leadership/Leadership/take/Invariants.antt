use Rattle.std.proofs.Common.{take}
use Rattle.primary_turns.specs.Deeds.{Adds}
use Rattle.primary_turns.specs.Turns.{TakesAll, seen}
use Rattle.primary_turns.proofs.leadership.Leadership.take.Given as goal

abbrev pub invariant-loop-number : goal.invariant-loop-number
invariant-loop-number l =
    Adds l.fn.deeds.items l.deeds.items (TakesAll l.fn.self (take l.number l.all) (seen l.self-inside.leader l.self-inside.notes.told l.self-inside.notes.flow.ahead))
