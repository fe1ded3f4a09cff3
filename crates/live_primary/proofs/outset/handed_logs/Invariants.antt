use Rattle.live_primary.proofs.OnePair.{SoFar}
use Rattle.live_primary.proofs.outset.handed_logs.Given as goal

abbrev pub invariant-loop-number : goal.invariant-loop-number
invariant-loop-number g l = SoFar l.guest l.quorum l.pair l.logs.items
