use Rattle.tracked_position.proofs.Legs.{IsAbove}
use Rattle.tracked_position.proofs.taking.child.Given as goal

abbrev pub invariant-loop-opening : goal.invariant-loop-opening
invariant-loop-opening l = IsAbove l.store l.top l.term l.now

abbrev pub decreases-loop-opening : goal.decreases-loop-opening
decreases-loop-opening l = l.now
