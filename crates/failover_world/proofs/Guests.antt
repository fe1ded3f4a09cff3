-- Stores and frames of one guest.
use Rattle.std.proofs.Common.{◌≡◌, ◌≢◌, ℕ, Bool, true, false, Contains, Some, sym, ap, subst, ◌∙◌, if◌then◌else◌}
use Rattle.ft_types.specs.Guests.{GuestParts, IsGuest}
use Rattle.guest_image.specs.Image.{guest_of}
use Rattle.fragment_codec.specs.declared.frame.Frame.{Frame}
use Rattle.fragment_codec.specs.declared.frame.Frame.TheVariants.{Log, Opening}
use Rattle.log_join.specs.declared.answers.Put.TheVariants.{Same, Clash as Clashes, OtherGuest}
use Rattle.log_join.specs.Cells.{Cell, Absent, One, Clash}
use Rattle.frame_content.specs.Tests.{same_guest, same_opening, same_fragment}
use Rattle.log_join.specs.Answers.{answer, answer_to}
use Rattle.log_join.specs.Stores.{StoreView, IsStore, IsJoin, nothing, opening_at, fragment_at}
use Rattle.log_join.proofs.Told.{guests_told, openings_told, fragments_told}
use Rattle.log_join.proofs.Cells.{cells_join}
use Rattle.log_join.proofs.Joins.{idempotent_stores}
use Rattle.log_join.proofs.Families.{granted_opening, granted_piece}
use Rattle.fenced_theory.specs.Worlds as theory
use Rattle.fenced_theory.proofs.Invariant.{Invariant}
use Rattle.fenced_theory.proofs.Ruled.{IsOfRules, ruled}
use Rattle.fenced_theory.proofs.Granting.{a_join, stores_are_right}
use Rattle.failover_world.specs.Worlds.{WorldView, store_at, term_of}
use Rattle.failover_world.specs.machinery.Tied.{Books, theory_world, quorum_of, live_book, IsTied}
use Rattle.failover_world.specs.machinery.Stopping.{beside}
use Rattle.failover_world.proofs.Places.{there_too}
use Rattle.failover_world.proofs.Stopping as stopping

-- a store joined with itself is that store
pub with_itself : (s : StoreView) → IsJoin s s s
with_itself s =
    let (c, join) = a_join s s in subst (IsJoin s s) (idempotent_stores (cells_join openings_told) (cells_join fragments_told) s c join) join

same_or_clash : (b : Bool) → (if b then Same else Clashes) ≢ OtherGuest
same_or_clash true = λ e. cc
same_or_clash false = λ e. cc

not_other : {X : Type 0} (same : X → X → Bool) (cell : Cell X) (x : X) → answer same cell x ≢ OtherGuest
not_other same Absent x = λ e. cc
not_other same (One y) x = same_or_clash (same y x)
not_other same Clash x = λ e. cc

is_own : (a b : GuestParts) → a ≡ b → same_guest a b ≡ true
is_own a b same = (guests_told a b).1 same

-- whose frame it is
abbrev guest_in : Frame → GuestParts
guest_in (Opening o) = o.guest
guest_in (Log x) = x.guest

own_answer : (s : StoreView) (f : Frame) → guest_in f ≡ s.guest → answer_to s f ≢ OtherGuest
own_answer s (Opening o) same =
    subst (λ b. (if b then answer same_opening (opening_at s o.term) o else OtherGuest) ≢ OtherGuest) (sym (is_own o.guest s.guest same))
    (not_other same_opening (opening_at s o.term) o)
own_answer s (Log x) same =
    subst (λ b. (if b then answer same_fragment (fragment_at s x.key) x else OtherGuest) ≢ OtherGuest) (sym (is_own x.guest s.guest same))
    (not_other same_fragment (fragment_at s x.key) x)

module _ (v : WorldView) (is : IsTied v) (guest : IsGuest (guest_of v.image)) where
  abbrev world : theory.World (Books v.image.pages is.are_theory)
  world = beside (theory_world v.image.pages is.are_theory (guest_of v.image) v is.terms is.notes is.marks is.out) is.comes.keepers

  kept : Invariant is.is_recorder.recorder (quorum_of v) world
  kept = stopping.kept is.is_recorder.recorder (guest_of v.image) (quorum_of v) is.comes

  rules : IsOfRules is.is_recorder.recorder (guest_of v.image) (quorum_of v) world
  rules = ruled is.is_recorder.recorder (guest_of v.image) (quorum_of v) guest is.comes.comes

  pub store_guest : (keeper : ℕ) (s : StoreView) → store_at v.stores keeper ≡ Some s → s.guest ≡ guest_of v.image
  store_guest keeper s at = rules.stores keeper s (there_too v.stores keeper s (Some (nothing (guest_of v.image))) at)

  frame_guest : (f : Frame) → Contains v.sent f → guest_in f ≡ guest_of v.image
  frame_guest (Opening o) has =
      let (p, there, same) = granted_opening world.terms o.term o (kept.frames (Opening o) has) in
      ap (λ o. o.guest) (sym same) ∙ (rules.terms.openings o.term p there).same_guest
  frame_guest (Log x) has =
      let (p, there, at) = granted_piece world.terms x.key x (kept.frames (Log x) has) in
      (rules.terms.pieces x.key.term p x.key.hart x.key.place x there at).same_guest

  -- so is the opening of the primary's term
  pub own_guest : v.primary.opening.guest ≡ guest_of v.image
  own_guest = frame_guest (Opening v.primary.opening) (is.opened (term_of v) (live_book v is.pieces is.is_book) is.there)

  pub not_foreign : (keeper : ℕ) (s : StoreView) (f : Frame) → store_at v.stores keeper ≡ Some s → Contains v.sent f → answer_to s f ≢ OtherGuest
  not_foreign keeper s f at has = own_answer s f (frame_guest f has ∙ sym (store_guest keeper s at))

  pub store_rules : (keeper : ℕ) (s : StoreView) → store_at v.stores keeper ≡ Some s → IsStore s
  store_rules keeper s at =
      ((stores_are_right is.is_recorder.recorder (guest_of v.image) (quorum_of v) guest world is.comes.comes).keepers keeper s
      (there_too v.stores keeper s (Some (nothing (guest_of v.image))) at)).0
