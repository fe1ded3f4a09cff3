use Rattle.std.proofs.Common.{◌≤◌, ◌-◌}
use Rattle.moments.specs.Stops.{LastHit}
use Rattle.moments.proofs.Stopping.{IsElsewhere}
use Rattle.moments.proofs.timeline.Timeline.last_hit.Given as goal

abbrev pub invariant-loop-self : goal.invariant-loop-self
invariant-loop-self l =
    record {
      line : IsElsewhere l.fn.self l.self;
      later : l.fn.self.stands.moment ≤ l.self.stands.moment;
      within : l.self.stands.moment ≤ l.end;
      last : LastHit l.points l.fn.self l.self.stands.moment l.last;
    }

abbrev pub decreases-loop-self : goal.decreases-loop-self
decreases-loop-self l = l.end - l.self.stands.moment
