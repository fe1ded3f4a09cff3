use Rattle.tracked_position.proofs.Keeping.{found_tracked}
use Rattle.tracked_position.proofs.tracked.Tracked.found.Goals as goal

pub invariant_of-result : goal.invariant_of-result
invariant_of-result c = (
  found_tracked c.args.store c.in_ok-position.position c.start-cursors.result c.start-cursors.ensures.rules c.in_ok-position.ensures.position
      c.in_ok-position.ensures.harts c.start-cursors.ensures.over,
  c.unknown.ensures c.args.store,
)
