use Rattle.std.proofs.Common.{◌-◌}
use Rattle.plan_lines.specs.Line.{steps_of}
use Rattle.moments.proofs.Coming.{IsComing}
use Rattle.moments.proofs.timeline.Timeline.go_to_count.Given as goal

abbrev pub invariant-loop-hart : goal.invariant-loop-hart
invariant-loop-hart l = IsComing l.fn.self l.self l.hart l.count

abbrev pub decreases-loop-hart : goal.decreases-loop-hart
decreases-loop-hart l = steps_of l.self.legs - l.self.stands.moment
