use Rattle.warm_backup.proofs.Raised.{IsRaised}
use Rattle.warm_backup.proofs.growing.grow.Given as goal

abbrev pub invariant-loop-number : goal.invariant-loop-number
invariant-loop-number l = IsRaised l.store l.ends l.initial.leg l.initial.rest l.number l.cursors l.leg l.rest
