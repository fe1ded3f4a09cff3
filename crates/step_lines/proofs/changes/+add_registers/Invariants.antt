use Rattle.std.proofs.Common.{length}
use Rattle.step_lines.proofs.changes.+add_registers.Given as goal

abbrev pub decreases-add_registers : goal.decreases-add_registers
decreases-add_registers l = length l.olds.now
