use Rattle.lease_ledger.proofs.Laws.{keeps_order, may_add_next}
use Rattle.lease_ledger.proofs.edge_order.Goals as goal

pub returns-clause-in_order : goal.returns-clause-in_order
returns-clause-in_order g c = λ system. keeps_order system

pub returns-clause-may_add : goal.returns-clause-may_add
returns-clause-may_add g c = λ system. may_add_next system
