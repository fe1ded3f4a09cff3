use Rattle.std.proofs.Common.{◌≡◌}
use Rattle.log_audit.specs.machinery.Covered.{IsOn, steps_left}
use Rattle.log_audit.proofs.legs.go_on.Given as goal

abbrev pub invariant-loop-clash : goal.invariant-loop-clash
invariant-loop-clash l = (l.harts.start ≡ l.fn.harts.start) × IsOn l.leg l.harts

abbrev pub decreases-loop-clash : goal.decreases-loop-clash
decreases-loop-clash l = steps_left l.leg.ends l.harts.harts
