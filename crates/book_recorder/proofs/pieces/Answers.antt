use Rattle.book_recorder.proofs.Cutting.{piece_is_cut, piece_has_notes}
use Rattle.book_recorder.proofs.pieces.Goals as goal

pub returns-clause-cuts : goal.returns-clause-cuts
returns-clause-cuts g c = λ recorder. piece_is_cut recorder

pub returns-clause-notes : goal.returns-clause-notes
returns-clause-notes g c = λ log mark x piece. piece_has_notes log mark x piece
