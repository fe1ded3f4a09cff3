use Rattle.log_join.proofs.Told.{openings_told, fragments_told}
use Rattle.log_join.proofs.Cells.{cells_join}
use Rattle.log_join.proofs.Gathered.{one_gathered, come_gathers, only_gathered_in, gathered_rules}
use Rattle.log_join.proofs.laws.order_and_repetition.Goals as goal

pub returns-clause-one : goal.returns-clause-one
returns-clause-one c = one_gathered (cells_join openings_told) (cells_join fragments_told)

pub returns-clause-in_turn : goal.returns-clause-in_turn
returns-clause-in_turn c = come_gathers

pub returns-clause-only : goal.returns-clause-only
returns-clause-only c = only_gathered_in (cells_join openings_told) (cells_join fragments_told)

pub returns-clause-rules : goal.returns-clause-rules
returns-clause-rules c = gathered_rules (cells_join openings_told) (cells_join fragments_told)
