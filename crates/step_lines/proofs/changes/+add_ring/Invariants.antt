use Rattle.std.proofs.Common.{length}
use Rattle.step_lines.proofs.changes.+add_ring.Given as goal

abbrev pub decreases-add_ring : goal.decreases-add_ring
decreases-add_ring l = length l.olds.now
