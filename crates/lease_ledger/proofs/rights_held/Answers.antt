use Rattle.lease_ledger.proofs.Laws.{keeps_rights, held_by_takers, leaves_the_way}
use Rattle.lease_ledger.proofs.rights_held.Goals as goal

pub returns-clause-rights : goal.returns-clause-rights
returns-clause-rights g c = λ system. keeps_rights system

pub returns-clause-held_by : goal.returns-clause-held_by
returns-clause-held_by g c = λ system. held_by_takers system

pub returns-clause-leaves_the_way : goal.returns-clause-leaves_the_way
returns-clause-leaves_the_way g c = leaves_the_way
