use Rattle.log_join.proofs.Told.{openings_told, fragments_told}
use Rattle.log_join.proofs.Cells.{cells_join}
use Rattle.log_join.proofs.Joins.{one_join, associates, commutes, idempotent_stores, unit_of_stores}
use Rattle.log_join.proofs.laws.joins_of_stores.Goals as goal

pub returns-clause-one : goal.returns-clause-one
returns-clause-one c = one_join (cells_join openings_told) (cells_join fragments_told)

pub returns-clause-associative : goal.returns-clause-associative
returns-clause-associative c = associates (cells_join openings_told) (cells_join fragments_told)

pub returns-clause-commutative : goal.returns-clause-commutative
returns-clause-commutative c = commutes (cells_join openings_told) (cells_join fragments_told)

pub returns-clause-idempotent : goal.returns-clause-idempotent
returns-clause-idempotent c = idempotent_stores (cells_join openings_told) (cells_join fragments_told)

pub returns-clause-unit : goal.returns-clause-unit
returns-clause-unit c = unit_of_stores
