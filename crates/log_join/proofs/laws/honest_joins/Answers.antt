use Rattle.log_join.proofs.Families.{joins_honest, honest_agree, honest_gather, honest_stay}
use Rattle.log_join.proofs.laws.honest_joins.Goals as goal

pub returns-clause-joins : goal.returns-clause-joins
returns-clause-joins g c = joins_honest _

pub returns-clause-agree : goal.returns-clause-agree
returns-clause-agree g c = honest_agree _

pub returns-clause-gather : goal.returns-clause-gather
returns-clause-gather g c = honest_gather _

pub returns-clause-stay : goal.returns-clause-stay
returns-clause-stay g c = honest_stay _
