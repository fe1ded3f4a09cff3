use Rattle.std.proofs.Common.{◌≤◌, ◌-◌}
use Rattle.moments.proofs.Stopping.{IsElsewhere}
use Rattle.moments.proofs.timeline.Timeline.go_to.Given as goal

abbrev pub invariant-loop-self : goal.invariant-loop-self
invariant-loop-self l =
    record {
      line : IsElsewhere l.fn.self l.self;
      within : l.self.stands.moment ≤ l.moment;
    }

abbrev pub decreases-loop-self : goal.decreases-loop-self
decreases-loop-self l = l.moment - l.self.stands.moment
