use Rattle.closed_cut.proofs.OnChain.{positions_on_chains, one_walk}
use Rattle.closed_cut.proofs.laws.positions_on_chains.Goals as goal

pub returns-clause-same : goal.returns-clause-same
returns-clause-same c = positions_on_chains

pub returns-clause-walk : goal.returns-clause-walk
returns-clause-walk c = one_walk
