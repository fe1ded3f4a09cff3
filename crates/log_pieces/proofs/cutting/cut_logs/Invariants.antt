use Rattle.log_pieces.specs.Pieces.{hart_log}
use Rattle.log_pieces.proofs.cuts.Harts.{HartsCut}
use Rattle.log_pieces.proofs.cutting.cut_logs.Given as goal

abbrev pub invariant-loop-number : goal.invariant-loop-number
invariant-loop-number l = HartsCut (hart_log l.guest l.term l.edges l.inputs l.notes l.settled) l.number l.fn.sealed l.frames.items l.next
