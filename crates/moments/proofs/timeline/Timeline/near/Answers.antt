use Rattle.std.proofs.Common.{arith}
use Rattle.moments.proofs.Jumping.{first_moment, copy_on}
use Rattle.moments.proofs.timeline.Timeline.near.Goals as goal

pub nearest-there-requires : goal.nearest-there-requires
nearest-there-requires c = let none = first_moment _ _ _ c.self.invariant.0.begun in omega (arith, none)

pub jump-requires : goal.jump-requires
jump-requires c =
    copy_on _ _ _ _ _ _ c.self.invariant.0 c.nearest-there.result.now c.in_ok-now.now c.in_ok-now.ensures c.args.self.now c.self.view_is
    (rw c.deref.ensures.value at c.nearest-there.ensures.among)
