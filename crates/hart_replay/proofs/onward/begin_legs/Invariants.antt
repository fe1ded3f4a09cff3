use Rattle.std.proofs.Common.{take}
use Rattle.hart_replay.specs.GoingOn.{AreAlike}
use Rattle.hart_replay.proofs.onward.begin_legs.Given as goal

abbrev pub invariant-loop-i : goal.invariant-loop-i
invariant-loop-i l = AreAlike (take l.i l.first) (take l.i l.second)
