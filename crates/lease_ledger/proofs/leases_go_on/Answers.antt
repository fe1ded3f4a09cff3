use Rattle.lease_ledger.proofs.Laws as laws
use Rattle.lease_ledger.proofs.leases_go_on.Goals as goal

pub returns-clause-leases : goal.returns-clause-leases
returns-clause-leases g c = λ system. laws.leases_go_on system

pub returns-clause-none_is_foreign : goal.returns-clause-none_is_foreign
returns-clause-none_is_foreign g c = λ system. laws.none_is_foreign system

pub returns-clause-ticks : goal.returns-clause-ticks
returns-clause-ticks g c = λ system. laws.ticks_go_on system

pub returns-clause-lends_more : goal.returns-clause-lends_more
returns-clause-lends_more g c = λ system. laws.lends_more system
