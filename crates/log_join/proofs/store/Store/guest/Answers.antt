use Rattle.std.proofs.Common.{subst}
use Rattle.log_join.specs.Stores.{IsStore}
use Rattle.log_join.proofs.Stores.{is_store}
use Rattle.log_join.proofs.store.Store.guest.Goals as goal

pub returns-clause-rules : goal.returns-clause-rules
returns-clause-rules c = subst IsStore c.self.view_is (is_store c.self.inside.guest c.self.inside.shelves c.self.invariant)
