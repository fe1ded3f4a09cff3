use Rattle.moments.proofs.Jumping.{copy_on}
use Rattle.moments.proofs.timeline.Timeline.near_count.Goals as goal

pub jump-requires : goal.jump-requires
jump-requires c =
    copy_on _ _ _ _ _ _ c.self.invariant.0 c.last_below-there.result.now c.in_ok-now.now c.in_ok-now.ensures c.args.self.now c.self.view_is
    (rw c.deref.ensures.value at c.last_below-there.ensures.among)
