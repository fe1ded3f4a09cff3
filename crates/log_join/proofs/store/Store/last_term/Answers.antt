use Rattle.std.proofs.Common.{sym, subst, ℕ}
use Rattle.log_join.specs.Stores.{StoreView, IsLastTerm}
use Rattle.log_join.specs.machinery.Contents.{view_of}
use Rattle.log_join.proofs.Stores.{last_is}
use Rattle.log_join.proofs.store.Store.last_term.Goals as goal

pub returns : goal.returns
returns c =
    subst (λ (v : StoreView). IsLastTerm v c.max.result) c.self.view_is
    (subst (λ (n : ℕ). IsLastTerm (view_of c.self.inside.guest c.self.inside.shelves) n) (sym c.max.ensures)
    (last_is c.self.inside.guest c.self.inside.shelves c.last_opening.result c.last_fragment.result c.last_opening.ensures.above c.last_opening.ensures.there
    c.last_fragment.ensures.above c.last_fragment.ensures.there))
