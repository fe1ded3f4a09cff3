use Rattle.wire.proofs.LastFences.{seen_none, seen_more, seen_all}
use Rattle.wire.proofs.fences.last_fence.Goals as goal

pub loop-text-init : goal.loop-text-init
loop-text-init c = seen_none c.args.guest.now c.args.bytes.now

pub loop-text-preserved : goal.loop-text-preserved
loop-text-preserved c = rw c.max-last.ensures (seen_more c.args.guest.now c.args.bytes.now c.loop-text.rest.now c.in-Some.text.now c.in-Some.behind.now
    c.loop-text.last c.fence_of.result c.in-Some.ensures.one c.in-Some.ensures.found c.fence_of.ensures c.loop-text.invariant)

pub returns : goal.returns
returns c = rw c.max.ensures (seen_all c.args.guest.now c.args.bytes.now c.loop-text.rest.now c.loop-text.last c.fence_of-2.result c.in_default.ensures.none
    c.fence_of-2.ensures c.loop-text.invariant)
