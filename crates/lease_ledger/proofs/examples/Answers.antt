use Rattle.lease_ledger.proofs.AtWork.{side_by_side, forgets_counts}
use Rattle.lease_ledger.proofs.examples.Goals as goal

pub returns-clause-side_by_side : goal.returns-clause-side_by_side
returns-clause-side_by_side c = side_by_side

pub returns-clause-counts_matter : goal.returns-clause-counts_matter
returns-clause-counts_matter c = forgets_counts
