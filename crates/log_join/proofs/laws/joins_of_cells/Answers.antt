use Rattle.log_join.proofs.Told.{openings_told, fragments_told}
use Rattle.log_join.proofs.Cells.{cells_join}
use Rattle.log_join.proofs.laws.joins_of_cells.Goals as goal

pub returns-clause-fragments_told : goal.returns-clause-fragments_told
returns-clause-fragments_told c = record { exact = fragments_told }

pub returns-clause-openings : goal.returns-clause-openings
returns-clause-openings c = cells_join openings_told

pub returns-clause-fragments : goal.returns-clause-fragments
returns-clause-fragments c = cells_join fragments_told
