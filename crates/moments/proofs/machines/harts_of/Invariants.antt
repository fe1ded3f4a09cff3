use Rattle.std.proofs.Common.{◌≡◌, take}
use Rattle.moments.proofs.machines.harts_of.Given as goal

abbrev pub invariant-loop-number : goal.invariant-loop-number
invariant-loop-number l = l.harts.items ≡ take l.number l.machine.harts
