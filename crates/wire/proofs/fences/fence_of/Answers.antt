use Rattle.wire.proofs.LastFences.{greatest_one}
use Rattle.wire.proofs.fences.fence_of.Goals as goal

pub returns : goal.returns
returns c = rw c.unwrap_or.ensures (greatest_one c.args.guest.now c.args.text.now c.read_fence.result c.read_fence.ensures.exact)
