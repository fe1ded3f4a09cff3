use Rattle.moments.proofs.Stopping.{IsClearFrom}
use Rattle.moments.proofs.timeline.Timeline.back_until.Given as goal

abbrev pub invariant-loop-end : goal.invariant-loop-end
invariant-loop-end l = IsClearFrom l.points l.fn.self l.self l.end

abbrev pub decreases-loop-end : goal.decreases-loop-end
decreases-loop-end l = l.end
