use Rattle.std.proofs.Common.{length}
use Rattle.wire.proofs.LastFences.{Seen}
use Rattle.wire.proofs.fences.last_fence.Given as goal

abbrev pub invariant-loop-text : goal.invariant-loop-text
invariant-loop-text l = Seen l.guest l.bytes l.rest l.last

abbrev pub decreases-loop-text : goal.decreases-loop-text
decreases-loop-text l = length l.rest
