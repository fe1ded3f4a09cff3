use Rattle.log_pieces.proofs.cuts.Noting.{Noting}
use Rattle.log_pieces.proofs.merging.noted.Given as goal

abbrev pub invariant-loop-note : goal.invariant-loop-note
invariant-loop-note l = Noting l.records l.notes l.note-index l.out.items l.left
