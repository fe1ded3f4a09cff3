use Rattle.hart_replay.proofs.honesty.Stores.{frames_gather, stores_join}
use Rattle.hart_replay.proofs.laws.honest_stores.Goals as goal

pub returns-clause-gather : goal.returns-clause-gather
returns-clause-gather g c system = frames_gather system

pub returns-clause-join : goal.returns-clause-join
returns-clause-join g c system = stores_join system
