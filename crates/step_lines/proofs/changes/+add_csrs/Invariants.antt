use Rattle.std.proofs.Common.{length}
use Rattle.step_lines.proofs.changes.+add_csrs.Given as goal

abbrev pub decreases-add_csrs : goal.decreases-add_csrs
decreases-add_csrs l = length l.olds.now
