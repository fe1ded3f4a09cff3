use Rattle.std.proofs.Common.{◌-◌, sum}
use Rattle.least_cuts.proofs.Raised.{IsOnTheWay}
use Rattle.least_cuts.proofs.closure.least_cut.Given as goal

abbrev pub invariant-loop-cut : goal.invariant-loop-cut
invariant-loop-cut l = IsOnTheWay l.leg l.fn.hart l.count l.cut

abbrev pub decreases-loop-cut : goal.decreases-loop-cut
decreases-loop-cut l = sum l.leg.ends - sum l.cut
