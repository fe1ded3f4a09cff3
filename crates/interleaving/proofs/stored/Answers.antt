use Rattle.interleaving.proofs.Lists.{runs_stored, stored_runs, one_outcome}
use Rattle.interleaving.proofs.stored.Goals as goal

pub returns-clause-runs : goal.returns-clause-runs
returns-clause-runs g c = λ hardware. runs_stored hardware

pub returns-clause-only_runs : goal.returns-clause-only_runs
returns-clause-only_runs g c = λ hardware. stored_runs hardware

pub returns-clause-one_outcome : goal.returns-clause-one_outcome
returns-clause-one_outcome g c = λ hardware. one_outcome hardware
