use Rattle.tracked_position.proofs.Keeping.{nothing_tracked}
use Rattle.tracked_position.proofs.tracked.Tracked.new.Goals as goal

pub invariant_of-result : goal.invariant_of-result
invariant_of-result c =
    (rw (c.new.ensures, c.zero.ensures, c.harts.ensures.value) (nothing_tracked c.args.guest _), c.unknown.ensures c.new.result)
