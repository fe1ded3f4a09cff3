use Rattle.std.proofs.Common.{◌+◌, length}
use Rattle.log_pieces.proofs.cuts.Merging.{Merging}
use Rattle.log_pieces.proofs.merging.merged.Given as goal

abbrev pub invariant-loop-first : goal.invariant-loop-first
invariant-loop-first l = Merging l.edges l.edges_left l.counts l.counts_left l.inputs l.inputs_left l.records.items

abbrev pub decreases-loop-first : goal.decreases-loop-first
decreases-loop-first l = length l.edges_left + length l.counts_left
