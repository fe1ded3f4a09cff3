use Rattle.std.proofs.Common.{◌-◌}
use Rattle.log_pieces.proofs.cuts.Chunks.{SoFar}
use Rattle.log_pieces.proofs.cutting.cut_hart.Given as goal

abbrev pub invariant-loop-from : goal.invariant-loop-from
invariant-loop-from l = SoFar l.origin l.records l.fn.sealed l.fn.frames.items l.sealed l.frames.items l.rest l.from

abbrev pub decreases-loop-from : goal.decreases-loop-from
decreases-loop-from l = l.origin.settled - l.from
