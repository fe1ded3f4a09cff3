use Rattle.std.proofs.Common.{◌-◌}
use Rattle.plan_lines.specs.Line.{steps_of}
use Rattle.moments.proofs.Stopping.{IsClear}
use Rattle.moments.proofs.timeline.Timeline.until.Given as goal

abbrev pub invariant-loop-number : goal.invariant-loop-number
invariant-loop-number l = IsClear l.points l.fn.self l.self

abbrev pub decreases-loop-number : goal.decreases-loop-number
decreases-loop-number l = steps_of l.self.legs - l.self.stands.moment
