-- A fragment that comes to a key at which nothing was.
use Rattle.std.proofs.Common.{◌≡◌, refl, sym, ap, ◌∙◌, true, false, cond}
use Rattle.std.specs.Prelude.{Option, Some, None, Result, Ok, Err, OnOk, OnErr}
use Rattle.std.specs.Ordering.{eq_by_cmp}
use Rattle.std.specs.BTreeMap.{BTreeMap, get}
use Rattle.ft_types.specs.Guests.{GuestParts}
use Rattle.ft_types.specs.declared.errors.Memory.{Memory}
use Rattle.fragment_codec.specs.declared.frame.Frame.{Frame}
use Rattle.fragment_codec.specs.declared.frame.Frame.TheVariants.{Log}
use Rattle.fragment_codec.specs.Rules.{FragmentParts}
use Rattle.frame_content.specs.declared.content.Content.{Content}
use Rattle.frame_content.specs.declared.content.Content.TheVariants.{One as OneFrame, Clash as Clashed}
use Rattle.frame_content.specs.Tests.{same_guest, same_fragment}
use Rattle.frame_content.specs.machinery.Contents.{same_frame}
use Rattle.log_join.specs.declared.answers.Put.TheVariants.{New, Same, Clash as Clashes, OtherGuest}
use Rattle.log_join.specs.declared.shelves.Shelves.{Shelves}
use Rattle.log_join.specs.Stores.{IsFragmentOf, IsJoin, alone, fragment_at}
use Rattle.log_join.specs.Answers.{answer, answer_to}
use Rattle.log_join.specs.machinery.Contents.{Fits, view_of, taken, put_answer, fragment_part}
use Rattle.log_join.specs.machinery.Places.{Place, key_of, place_of, place_cmp}
use Rattle.log_join.proofs.Told.{guests_told}
use Rattle.log_join.proofs.Joins.{keys_total}
use Rattle.log_join.proofs.Shown.{answer_is, cell_shown}
use Rattle.log_join.proofs.Stores.{IsTaken, puts_fragment, fragment_fits, fragments_agree}

-- where a frame is new nothing stands
new_free : (c : Option Content) (f : Frame) → put_answer c f ≡ New → c ≡ None
new_free None f e = refl
new_free (Some Clashed) f e = absurd (cc e)
new_free (Some (OneFrame g)) f e =
    absurd (elim (same_frame g f) as (λ b. cond b Same Clashes ≡ New → ⊥) [ true ↦ λ h. cc h | false ↦ λ h. cc h ] e)

module _ (guest : GuestParts) (s : Shelves) (f : FragmentParts) (fits : Fits guest s) (new : answer_to (view_of guest s) (Log f) ≡ New) where
  -- a new fragment is of the store's guest
  pub own_guest : f.guest ≡ guest
  own_guest =
      (guests_told f.guest guest).0 (elim (same_guest f.guest guest) as (λ b. cond b (answer same_fragment (fragment_at (view_of guest s) f.key) f) OtherGuest ≡
      New → b ≡ true) [ true ↦ λ h. refl | false ↦ λ h. absurd (cc h) ] new)

  -- and nothing stands at its key
  pub none_there : get place_cmp s.fragments (place_of f.key) ≡ None
  none_there =
      let there = get place_cmp s.fragments (place_of f.key) in
      let asked = answer_is fragment_part (IsFragmentOf guest f.key) fragments_agree there (Log f) f (fits.places (place_of f.key)) refl in
      let seen = sym (ap (λ c. answer same_fragment c f) (cell_shown keys_total key_of fragment_part s.fragments (place_of f.key))) in
      let answered = sym (ap (λ b. cond b (answer same_fragment (fragment_at (view_of guest s) f.key) f) OtherGuest) ((guests_told f.guest guest).1 own_guest)) in
      new_free there (Log f) (asked ∙ (seen ∙ (answered ∙ new)))

  module _ (n : BTreeMap Place Content) where
    -- it is taken as `put_at` would take it
    first_taken : ((q : Place) → get place_cmp n q ≡ cond (eq_by_cmp place_cmp (place_of f.key) q) (Some (taken None (Log f))) (get place_cmp s.fragments q)) →
        IsTaken place_cmp s.fragments n (place_of f.key) (Log f) (Ok New)
    first_taken takes = record {
      answers = sym (ap (λ c. put_answer c (Log f)) none_there);
      takes = λ q. takes q ∙ sym (ap (λ c. cond (eq_by_cmp place_cmp (place_of f.key) q) (Some (taken c (Log f))) (get place_cmp s.fragments q)) none_there);
      keeps = tt;
      lacks = tt;
    }

    not_taken : (e : Memory) → ((q : Place) → get place_cmp n q ≡ get place_cmp s.fragments q) → IsTaken place_cmp s.fragments n (place_of f.key) (Log f) (Err e)
    not_taken e keeps = record { answers = tt; takes = tt; keeps = keeps; lacks = none_there }

    module _ {X : Type 0} where
      -- so the store is joined with it
      pub first_joined : (result : Result X Memory) →
          OnOk result ((q : Place) → get place_cmp n q ≡ cond (eq_by_cmp place_cmp (place_of f.key) q) (Some (taken None (Log f))) (get place_cmp s.fragments q)) →
          OnOk result (IsJoin (view_of guest s) (alone (Log f)) (view_of guest (record s { fragments = n })))
      first_joined (Ok x) takes = (puts_fragment guest s n f (Ok New) fits own_guest (first_taken takes)).joined (λ e. cc e)
      first_joined (Err e) takes = tt

      -- or is as it was
      pub first_kept : (result : Result X Memory) → OnErr result ((q : Place) → get place_cmp n q ≡ get place_cmp s.fragments q) →
          OnErr result (view_of guest (record s { fragments = n }) ≡ view_of guest s)
      first_kept (Ok x) keeps = tt
      first_kept (Err e) keeps = (puts_fragment guest s n f (Err e) fits own_guest (not_taken e keeps)).err

      pub first_fits : IsFragmentOf guest f.key f → (result : Result X Memory) →
          OnOk result ((q : Place) → get place_cmp n q ≡ cond (eq_by_cmp place_cmp (place_of f.key) q) (Some (taken None (Log f))) (get place_cmp s.fragments q)) →
          OnErr result ((q : Place) → get place_cmp n q ≡ get place_cmp s.fragments q) → Fits guest (record s { fragments = n })
      first_fits own (Ok x) takes keeps = fragment_fits guest s n f (Ok New) fits own (first_taken takes)
      first_fits own (Err e) takes keeps = fragment_fits guest s n f (Err e) fits own (not_taken e keeps)
