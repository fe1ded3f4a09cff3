use Rattle.std.proofs.Common.{ap, subst}
use Rattle.log_join.specs.Stores.{StoreView, IsJoin}
use Rattle.log_join.proofs.Stores.{from_nothing}
use Rattle.log_join.proofs.store.Store.copy.Goals as goal

pub returns-in-Ok : goal.returns-in-Ok
returns-in-Ok c =
    from_nothing c.self.inside.guest c.args.self.now c.join.new.self (ap (λ v. v.guest) c.self.view_is)
    (subst (λ (v : StoreView). IsJoin v c.args.self.now c.join.new.self) c.new-copy.ensures c.in-Ok.ensures.joined)
