use Rattle.log_pieces.proofs.cuts.Laws.{one_has, count_once}
use Rattle.log_pieces.proofs.cut_laws.one_piece.Goals as goal

pub returns-clause-pieces : goal.returns-clause-pieces
returns-clause-pieces c = λ log old new pieces cut. one_has log old new pieces cut.row

pub returns-clause-records : goal.returns-clause-records
returns-clause-records c = λ log old new pieces cut. count_once log old new pieces cut.row
