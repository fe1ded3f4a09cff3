-- Stores of one family's frames.
use Rattle.std.proofs.Common.{◌≡◌, ◌≢◌, refl, sym, ap, subst, ◌∙◌, ℕ, [], ◌∷◌, ◌++◌, Bool, true, false, cond, Contains, inl, inr, ◌⊎◌, arith}
use Rattle.std.proofs.lemmas.List.Elements.{Contains-append_left, Contains-append_right}
use Rattle.std.specs.Prelude.{Option, Some, None, slice_get}
use Rattle.std.specs.Ordering.{nat_cmp, eq_by_cmp}
use Rattle.std.specs.declared.cmp.Ordering.{Ordering}
use Rattle.std.specs.declared.cmp.Ordering.TheVariants.{Equal}
use Rattle.std.specs.Cmp.{IsTotalOrder, nat_cmp_total, Equal-is}
use Rattle.std.proofs.lemmas.Map.Lookups.{exact_unsigned}
use Rattle.std.specs.FinMap as map
use Rattle.ft_types.specs.Guests.{GuestParts}
use Rattle.fragment_codec.specs.declared.types.Key.{Key}
use Rattle.fragment_codec.specs.declared.frame.Frame.{Frame}
use Rattle.fragment_codec.specs.declared.frame.Frame.TheVariants.{Log, Opening}
use Rattle.fragment_codec.specs.Rules.{FragmentParts, OpeningParts}
use Rattle.log_join.specs.Cells.{Cell, Absent, One, Clash, join_cell, cell_of}
use Rattle.frame_content.specs.Tests.{same_opening, same_fragment}
use Rattle.log_join.specs.Stores.{StoreView, key_cmp, opening_at, fragment_at, nothing, alone}
use Rattle.log_join.specs.Coming.{Nothing, Put, Join}
use Rattle.log_join.specs.Laws.{CellsJoin}
use Rattle.log_join.specs.Families.{Past, Family, only, opening_of, piece_of, opening_in, fragment_in, OfFamily, HonestStore}
use Rattle.log_join.specs.FamilyLaws.{HonestJoins, HonestAgree, HonestGather, HonestStay}
use Rattle.log_join.proofs.Told.{openings_told, fragments_told}
use Rattle.log_join.proofs.Cells.{cells_join}
use Rattle.log_join.proofs.Joins.{keys_total, keys_exact}

-- ---- cells that are nothing, or one content

abbrev Fine : {X : Type 0} → Cell X → Cell X → Type 0
Fine whole a = (a ≡ Absent) ⊎ (a ≡ whole)

module _ {X : Type 0} (same : X → X → Bool) (laws : CellsJoin same) where
  join_fine : (whole a b : Cell X) → Fine whole a → Fine whole b → Fine whole (join_cell same a b)
  join_fine whole a b (inl none) (inl too) = inl (ap (λ c. join_cell same c b) none ∙ too)
  join_fine whole a b (inl none) (inr is) = inr (ap (λ c. join_cell same c b) none ∙ is)
  join_fine whole a b (inr is) (inl none) = inr (ap (join_cell same a) none ∙ laws.commutative a Absent ∙ is)
  join_fine whole a b (inr is) (inr at) = inr (ap (λ c. join_cell same c b) is ∙ ap (join_cell same whole) at ∙ laws.idempotent whole)

  keeps_left : (whole a b : Cell X) (x : X) → Fine whole a → Fine whole b → a ≡ One x → join_cell same a b ≡ One x
  keeps_left whole a b x fine (inl none) one = ap (join_cell same a) none ∙ laws.commutative a Absent ∙ one
  keeps_left whole a b x (inl none) (inr at) one = let no : Absent ≡ One x = sym none ∙ one in cc
  keeps_left whole a b x (inr is) (inr at) one =
      ap (λ c. join_cell same c b) is ∙ ap (join_cell same whole) at ∙ laws.idempotent whole ∙ sym is ∙ one

  keeps_right : (whole a b : Cell X) (x : X) → Fine whole a → Fine whole b → b ≡ One x → join_cell same a b ≡ One x
  keeps_right whole a b x first second one = laws.commutative a b ∙ keeps_left whole b a x second first one

only_agrees : {X : Type 0} (o : Option X) → only o ≢ Clash
only_agrees None e = cc
only_agrees (Some x) e = cc

opening_agrees : {Told : Type 0} (p : Option (Past Told)) → opening_of p ≢ Clash
opening_agrees None e = cc
opening_agrees (Some p) e = cc

piece_agrees : {Told : Type 0} (p : Option (Past Told)) (hart place : ℕ) → piece_of p hart place ≢ Clash
piece_agrees None hart place e = cc
piece_agrees (Some p) hart place e = only_agrees (slice_get (p.pieces hart) place) e

fine_agrees : {X : Type 0} (whole a : Cell X) → whole ≢ Clash → Fine whole a → a ≢ Clash
fine_agrees whole a agrees (inl none) e = let no : Absent ≡ Clash = sym none ∙ e in cc
fine_agrees whole a agrees (inr is) e = agrees (sym is ∙ e)

-- what has no clash stays where each one content does
fine_stays : {X : Type 0} (was now a : Cell X) → was ≢ Clash → ((x : X) → was ≡ One x → now ≡ One x) → Fine was a → Fine now a
fine_stays was now a agrees more (inl none) = inl none
fine_stays Absent now a agrees more (inr is) = inl is
fine_stays (One x) now a agrees more (inr is) = inr (is ∙ sym (more x refl))
fine_stays Clash now a agrees more (inr is) = absurd (agrees refl)

-- ---- what a family has

one_of_only : {X : Type 0} (o : Option X) (x : X) → only o ≡ One x → o ≡ Some x
one_of_only None x e = cc
one_of_only (Some y) x e = cc

-- an opening of the family is that of a term that was granted
pub granted_opening : {Told : Type 0} (terms : Family Told) (term : ℕ) (o : OpeningParts) → opening_in terms term ≡ One o →
    (p : Past Told) × (terms term ≡ Some p) × (p.opening ≡ o)
granted_opening {Told} terms term o e = of (terms term) refl e
  where
    of : (p : Option (Past Told)) → terms term ≡ p → opening_of p ≡ One o → (p : Past Told) × (terms term ≡ Some p) × (p.opening ≡ o)
    of None at one = let no : Absent ≡ One o = one in cc
    of (Some p) at one = (p, at, let same : p.opening ≡ o = cc in same)

-- and a fragment is the piece at its place
pub granted_piece : {Told : Type 0} (terms : Family Told) (key : Key) (piece : FragmentParts) → fragment_in terms key ≡ One piece →
    (p : Past Told) × (terms key.term ≡ Some p) × (slice_get (p.pieces key.hart) key.place ≡ Some piece)
granted_piece {Told} terms key piece e = of (terms key.term) refl e
  where
    of : (p : Option (Past Told)) → terms key.term ≡ p → piece_of p key.hart key.place ≡ One piece →
        (p : Past Told) × (terms key.term ≡ Some p) × (slice_get (p.pieces key.hart) key.place ≡ Some piece)
    of None at one = let no : Absent ≡ One piece = one in cc
    of (Some p) at one = (p, at, one_of_only (slice_get (p.pieces key.hart) key.place) piece one)

pub opening_granted : {Told : Type 0} (terms : Family Told) (term : ℕ) (p : Past Told) → terms term ≡ Some p → opening_in terms term ≡ One p.opening
opening_granted terms term p is = ap opening_of is

pub piece_granted : {Told : Type 0} (terms : Family Told) (key : Key) (p : Past Told) (piece : FragmentParts) → terms key.term ≡ Some p →
    slice_get (p.pieces key.hart) key.place ≡ Some piece → fragment_in terms key ≡ One piece
piece_granted terms key p piece is at = ap (λ q. piece_of q key.hart key.place) is ∙ ap only at

one_fine : {X : Type 0} (whole a : Cell X) (x : X) → Fine whole a → a ≡ One x → whole ≡ One x
one_fine whole a x (inl none) one = let no : Absent ≡ One x = sym none ∙ one in cc
one_fine whole a x (inr is) one = sym is ∙ one

module _ {Told : Type 0} (terms : Family Told) (store : StoreView) (honest : HonestStore terms store) where
  -- what an honest store has the family has
  pub opening_known : (term : ℕ) (o : OpeningParts) → opening_at store term ≡ One o → (p : Past Told) × (terms term ≡ Some p) × (p.opening ≡ o)
  opening_known term o one = granted_opening terms term o (one_fine (opening_in terms term) (opening_at store term) o (honest.openings term) one)

  pub fragment_known : (key : Key) (piece : FragmentParts) → fragment_at store key ≡ One piece →
      (p : Past Told) × (terms key.term ≡ Some p) × (slice_get (p.pieces key.hart) key.place ≡ Some piece)
  fragment_known key piece one =
      granted_piece terms key piece (one_fine (fragment_in terms key) (fragment_at store key) piece (honest.fragments key) one)

-- ---- stores

pub joins_honest : (Told : Type 0) → HonestJoins Told
joins_honest Told terms a b c one two join =
    record {
      honest =
          record {
            openings = λ term. subst (Fine (opening_in terms term)) (sym (join.openings term))
                (join_fine same_opening openings (opening_in terms term) (opening_at a term) (opening_at b term) (one.openings term) (two.openings term));
            fragments = λ key. subst (Fine (fragment_in terms key)) (sym (join.fragments key))
                (join_fine same_fragment fragments (fragment_in terms key) (fragment_at a key) (fragment_at b key) (one.fragments key) (two.fragments key));
          };
      left =
          record {
            openings = λ term o is. join.openings term ∙
                keeps_left same_opening openings (opening_in terms term) (opening_at a term) (opening_at b term) o (one.openings term) (two.openings term) is;
            fragments = λ key x is. join.fragments key ∙
                keeps_left same_fragment fragments (fragment_in terms key) (fragment_at a key) (fragment_at b key) x (one.fragments key) (two.fragments key) is;
          };
      right =
          record {
            openings = λ term o is. join.openings term ∙
                keeps_right same_opening openings (opening_in terms term) (opening_at a term) (opening_at b term) o (one.openings term) (two.openings term) is;
            fragments = λ key x is. join.fragments key ∙
                keeps_right same_fragment fragments (fragment_in terms key) (fragment_at a key) (fragment_at b key) x (one.fragments key) (two.fragments key)
                is;
          };
    }
  where
    openings : CellsJoin same_opening
    openings = cells_join openings_told

    fragments : CellsJoin same_fragment
    fragments = cells_join fragments_told

pub honest_agree : (Told : Type 0) → HonestAgree Told
honest_agree Told terms store honest =
    record {
      openings = λ term. fine_agrees (opening_in terms term) (opening_at store term) (opening_agrees (terms term)) (honest.openings term);
      fragments = λ key. fine_agrees (fragment_in terms key) (fragment_at store key) (piece_agrees (terms key.term) key.hart key.place) (honest.fragments key);
    }

pub honest_stay : (Told : Type 0) → HonestStay Told
honest_stay Told terms more store grows honest =
    record {
      openings = λ term.
          fine_stays (opening_in terms term) (opening_in more term) (opening_at store term) (opening_agrees (terms term)) (grows.openings term)
          (honest.openings term);
      fragments = λ key.
          fine_stays (fragment_in terms key) (fragment_in more key) (fragment_at store key) (piece_agrees (terms key.term) key.hart key.place)
          (grows.fragments key) (honest.fragments key);
    }

-- a map of one content has that at its key, and nothing elsewhere
alone_cell : {K X : Type 0} {R : K → K → Ordering} → IsTotalOrder R → ((a b : K) → R a b ≡ Equal → a ≡ b) → (k q : K) (x : X) →
    (cell_of (map.get (map.insert (map.empty {R = R}) k (Some x)) q) ≡ Absent) ⊎
    ((q ≡ k) × (cell_of (map.get (map.insert (map.empty {R = R}) k (Some x)) q) ≡ One x))
alone_cell {K} {X} {R} total exact k q x = of (eq_by_cmp R q k) refl
  where
    seen : Bool → Cell X
    seen b = cell_of (cond b (Some (Some x)) (map.get (map.empty {R = R}) q))

    is : cell_of (map.get (map.insert (map.empty {R = R}) k (Some x)) q) ≡ seen (eq_by_cmp R q k)
    is = ap cell_of (map.get-insert total map.empty k (Some x) q)

    of : (b : Bool) → eq_by_cmp R q k ≡ b →
        (cell_of (map.get (map.insert (map.empty {R = R}) k (Some x)) q) ≡ Absent) ⊎
        ((q ≡ k) × (cell_of (map.get (map.insert (map.empty {R = R}) k (Some x)) q) ≡ One x))
    of true t = inr (exact q k ((Equal-is (R q k)).0 t), is ∙ ap seen t)
    of false t = inl (is ∙ ap seen t ∙ ap cell_of (map.get-empty R q))

pub honest_alone : {Told : Type 0} (terms : Family Told) (frame : Frame) → OfFamily terms frame → HonestStore terms (alone frame)
honest_alone terms (Opening o) its =
    record {
      openings = λ term. elim (alone_cell nat_cmp_total exact_unsigned o.term term o) [
        | inl none ↦ inl none
        | inr (at, one) ↦ inr (one ∙ sym its ∙ ap (opening_in terms) (sym at))
      ];
      fragments = λ key. inl (ap cell_of (map.get-empty key_cmp key));
    }
honest_alone terms (Log piece) its =
    record {
      openings = λ term. inl (ap cell_of (map.get-empty nat_cmp term));
      fragments = λ key. elim (alone_cell keys_total keys_exact piece.key key piece) [
        | inl none ↦ inl none
        | inr (at, one) ↦ inr (one ∙ sym its ∙ ap (fragment_in terms) (sym at))
      ];
    }

pub honest_nothing : {Told : Type 0} (terms : Family Told) (guest : GuestParts) → HonestStore terms (nothing guest)
honest_nothing terms guest =
    record {
      openings = λ term. inl (ap cell_of (map.get-empty nat_cmp term));
      fragments = λ key. inl (ap cell_of (map.get-empty key_cmp key));
    }

pub honest_gather : (Told : Type 0) → HonestGather Told
honest_gather Told terms guest frames store (Nothing none is) all = subst (HonestStore terms) (sym is) (honest_nothing terms guest)
honest_gather Told terms guest frames store (Put earlier frame old before joined are) all =
    let came : (f : Frame) → Contains (earlier ++ frame ∷ []) f → OfFamily terms f = subst (λ fs. (f : Frame) → Contains fs f → OfFamily terms f) are all in
    (
    joins_honest Told terms old (alone frame) store
    (honest_gather Told terms guest earlier old before (λ f is_in. came f (Contains-append_left earlier (frame ∷ []) f is_in)))
    (honest_alone terms frame (came frame (Contains-append_right earlier (frame ∷ []) frame (0, omega arith, refl))))
    joined
    ).honest
honest_gather Told terms guest frames store (Join first second a b one two joined are) all =
    let came : (f : Frame) → Contains (first ++ second) f → OfFamily terms f = subst (λ fs. (f : Frame) → Contains fs f → OfFamily terms f) are all in
    (
    joins_honest Told terms a b store
    (honest_gather Told terms guest first a one (λ f is_in. came f (Contains-append_left first second f is_in)))
    (honest_gather Told terms guest second b two (λ f is_in. came f (Contains-append_right first second f is_in)))
    joined
    ).honest
