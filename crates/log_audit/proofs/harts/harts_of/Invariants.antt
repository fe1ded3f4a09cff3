use Rattle.std.proofs.Common.{◌≡◌, take}
use Rattle.log_audit.proofs.harts.harts_of.Given as goal

abbrev pub invariant-loop-number : goal.invariant-loop-number
invariant-loop-number l = l.harts.items ≡ take l.number l.machine.harts
