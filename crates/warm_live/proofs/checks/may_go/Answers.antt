use Rattle.std.proofs.Common.{◌≡◌, ◌≢◌, ◌∷◌, map, refl, ap, subst, ◌∙◌}
use Rattle.std.specs.Prelude.{All}
use Rattle.std.specs.List.{Any}
use Rattle.std.proofs.lemmas.List.Elements.{All-cons}
use Rattle.ft_types.specs.Guests.{GuestParts}
use Rattle.log_join.specs.Stores.{StoreView}
use Rattle.guest_image.specs.Image.{ImageContents, guest_of}
use Rattle.go_live.proofs.Newness.{not_both}
use Rattle.warm_live.proofs.Own.{any_other, never_any}
use Rattle.warm_live.proofs.checks.may_go.Goals as goal

pub returns-then-not-is_new_to-clause-other_guest : goal.returns-then-not-is_new_to-clause-other_guest
returns-then-not-is_new_to-clause-other_guest c = (
  λ e. cc,
  λ (enough, new, any). absurd (not_both (c.args.backup.now.store ∷ map (λ s. s.1.now) c.args.stores.now) c.args.term new
      (rw c.store.ensures at c.if-not-is_new_to.ensures.old (λ t. cc))),
)

pub returns-then-not-is_new_to-clause-not_new : goal.returns-then-not-is_new_to-clause-not_new
returns-then-not-is_new_to-clause-not_new c = (
  λ e. (c.if-not-are_enough.ensures.0 refl, rw c.store.ensures at c.if-not-is_new_to.ensures.old (λ t. cc)),
  λ x. refl,
)

pub returns-then-not-are_of-clause-not_new : goal.returns-then-not-are_of-clause-not_new
returns-then-not-are_of-clause-not_new c = (
  λ e. cc,
  λ (enough, old). absurd (not_both (c.args.backup.now.store ∷ map (λ s. s.1.now) c.args.stores.now) c.args.term
      (rw c.store.ensures at c.if-not-is_new_to.ensures.new refl) old),
)

pub returns-then-not-are_of-clause-other_guest : goal.returns-then-not-are_of-clause-other_guest
returns-then-not-are_of-clause-other_guest c =
    let stores = map (λ s. s.1.now) c.args.stores.now in
    let guest = c.guest-guest.ensures ∙ ap (λ (i : ImageContents). guest_of i) c.image.ensures.value in (
      λ e. (
        c.if-not-are_enough.ensures.0 refl,
        rw c.store.ensures at c.if-not-is_new_to.ensures.new refl,
        any_other (λ (store : StoreView). store.guest ≢ guest_of c.args.backup.now.image) c.args.backup.now.store stores
            (subst (λ (guest : GuestParts). Any (λ (store : StoreView). store.guest ≢ guest) stores) guest (c.if-not-are_of.ensures.foreign (λ t. cc))),
      ),
      λ x. refl,
    )

pub returns-clause-not_new : goal.returns-clause-not_new
returns-clause-not_new c = (
  λ e. cc,
  λ (enough, old). absurd (not_both (c.args.backup.now.store ∷ map (λ s. s.1.now) c.args.stores.now) c.args.term
      (rw c.store.ensures at c.if-not-is_new_to.ensures.new refl) old),
)

pub returns-clause-guest : goal.returns-clause-guest
returns-clause-guest c =
    let stores = map (λ s. s.1.now) c.args.stores.now in
    let guest = c.guest-guest.ensures ∙ ap (λ (i : ImageContents). guest_of i) c.image.ensures.value in
    All-cons (λ (store : StoreView). store.guest ≡ guest_of c.args.backup.now.image) c.args.backup.now.store stores c.image.ensures.guest
    (subst (λ (guest : GuestParts). All (λ (store : StoreView). store.guest ≡ guest) stores) guest (c.if-not-are_of.ensures.own refl))

pub returns-clause-other_guest : goal.returns-clause-other_guest
returns-clause-other_guest c = (
  λ e. cc,
  λ (enough, new, any). absurd (never_any (λ (store : StoreView). store.guest ≡ guest_of c.args.backup.now.image)
      (c.args.backup.now.store ∷ map (λ s. s.1.now) c.args.stores.now) (returns-clause-guest c) any),
)
