use Rattle.interleaving.proofs.Cuts.{same_order}
use Rattle.interleaving.proofs.Fewer.{stays_honest}
use Rattle.interleaving.proofs.implied_edges.Goals as goal

pub returns-clause-same_order : goal.returns-clause-same_order
returns-clause-same_order g c = same_order

pub returns-clause-stays_honest : goal.returns-clause-stays_honest
returns-clause-stays_honest g c = λ system. stays_honest system
