use Rattle.std.proofs.Common.{◌≡◌, ◌∙◌, sym, subst}
use Rattle.log_join.specs.Stores.{StoreView, IsJoin}
use Rattle.ft_types.specs.Guests.{GuestParts}
use Rattle.log_join.specs.machinery.Contents.{Fits, view_of}
use Rattle.log_join.proofs.Told.{guests_told}
use Rattle.log_join.proofs.Stores.{same_view, met_view, though_err}
use Rattle.log_join.proofs.store.Store.join.Goals as goal

pub returns-in_err-join-clause-err : goal.returns-in_err-join-clause-err
returns-in_err-join-clause-err c = though_err c.from_residual.result _ (same_view c.self.inside.guest c.self.inside.shelves c.join.new.self
    c.in_err-join.ensures.err ∙ c.self.view_is)

pub returns-clause-joined : goal.returns-clause-joined
returns-clause-joined c =
    let guest = c.self.inside.guest in
    let s = c.self.inside.shelves in
    let other = c.other.inside.shelves in
    let n = c.join.new.self in
    let one : guest ≡ c.other.inside.guest = (guests_told _ _).0 (sym c.if-not-is_same_guest.ensures) in
    let fits = subst (λ (g : GuestParts). Fits g other) (sym one) c.other.invariant in
    subst (λ (v : StoreView). IsJoin c.args.self.now v (view_of guest n)) c.other.view_is
    (subst (λ (g : GuestParts). IsJoin c.args.self.now (view_of g other) (view_of guest n)) one
    (subst (λ (v : StoreView). IsJoin v (view_of guest other) (view_of guest n)) c.self.view_is
    (met_view guest s other n c.self.invariant fits c.in_ok-join.ensures.ok)))
