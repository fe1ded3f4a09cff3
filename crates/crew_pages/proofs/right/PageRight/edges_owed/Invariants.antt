use Rattle.crew_pages.specs.Rights.{right_of}
use Rattle.crew_pages.proofs.Owed.{SoFar}
use Rattle.crew_pages.proofs.right.PageRight.edges_owed.Given as goal

abbrev pub invariant-loop-number : goal.invariant-loop-number
invariant-loop-number l = SoFar (right_of l.self) l.hart l.want l.at l.number l.edges
