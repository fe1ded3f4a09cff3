use Rattle.std.proofs.Common.{reverse}
use Rattle.hart_replay.proofs.walking.Made.{AreMade}
use Rattle.hart_replay.proofs.planning.legs_to.Given as goal

abbrev pub invariant-loop-opening : goal.invariant-loop-opening
invariant-loop-opening l = AreMade l.store l.position (reverse l.legs.items) l.term l.ends

abbrev pub decreases-loop-opening : goal.decreases-loop-opening
decreases-loop-opening l = l.term
