use Rattle.closed_cut.proofs.Reach.{AreGathered}
use Rattle.closed_cut.proofs.walk.reached.Given as goal

abbrev pub invariant-loop-number : goal.invariant-loop-number
invariant-loop-number l = AreGathered l.store l.opening.term l.base l.bound l.edges.items l.number
