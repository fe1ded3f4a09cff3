use Rattle.tracked_position.proofs.Bounds.{held_all}
use Rattle.tracked_position.proofs.held.all_held.Goals as goal

pub returns-then-not-hold_more : goal.returns-then-not-hold_more
returns-then-not-hold_more c is =
    held_all c.hold_more.new.held c.args.waits.now c.hold_more.array_long c.type_inv.waits (c.are_set.ensures.0 is) c.hold_more.ensures

pub returns : goal.returns
returns c is = held_all c.loop.held c.args.waits.now c.loop-test.array_long c.type_inv.waits (c.are_set-2.ensures.0 is) c.loop.invariant
