-- What a store shows, from what its two maps have at each key.
use Rattle.std.proofs.Common.{◌≡◌, refl, sym, ap, subst, ◌∙◌, Bool, true, false, cond, ℕ, ◌≤◌, ◌<◌, arith, inl, inr, ⊎_elim}
use Rattle.std.specs.Prelude.{◌≢◌, ◌⊎◌, max, IsSome, Option, Some, None, Result, Ok, Err, IfOk, OnOk, OnErr}
use Rattle.std.specs.declared.cmp.Ordering.{Ordering}
use Rattle.std.specs.declared.cmp.Ordering.TheVariants.{Equal}
use Rattle.std.specs.Ordering.{nat_cmp, eq_by_cmp}
use Rattle.std.specs.Cmp.{IsTotalOrder, nat_cmp_total}
use Rattle.std.specs.BTreeMap.{BTreeMap, get}
use Rattle.std.specs.FinMap as finite
use Rattle.std.proofs.Math.Nat.{le-max_left, le-max_right, max-le}
use Rattle.std.proofs.lemmas.Bool.{cases_lt}
use Rattle.std.proofs.lemmas.Cmp.{on_total}
use Rattle.std.proofs.lemmas.Map.Lookups.{exact_unsigned}
use Rattle.ft_types.specs.Guests.{GuestParts}
use Rattle.ft_types.specs.declared.errors.Memory.{Memory}
use Rattle.fragment_codec.specs.declared.types.Key.{Key}
use Rattle.fragment_codec.specs.declared.frame.Frame.{Frame}
use Rattle.fragment_codec.specs.declared.frame.Frame.TheVariants.{Log, Opening}
use Rattle.fragment_codec.specs.Rules.{FragmentParts, OpeningParts}
use Rattle.log_join.specs.declared.answers.Put.{Put}
use Rattle.log_join.specs.declared.answers.Put.TheVariants.{Same, Clash as Clashes, OtherGuest}
use Rattle.log_join.specs.declared.answers.Found.{Found}
use Rattle.log_join.specs.declared.answers.Found.TheVariants.{Absent as FindsNone, One as FindsOne, Clash as FindsClash}
use Rattle.frame_content.specs.declared.content.Content.{Content}
use Rattle.frame_content.specs.declared.content.Content.TheVariants.{One as OneFrame, Clash as Clashed}
use Rattle.log_join.specs.declared.shelves.Shelves.{Shelves}
use Rattle.log_join.specs.Cells.{Absent, join_cell, cell_of}
use Rattle.frame_content.specs.Tests.{same_guest, same_opening, same_fragment}
use Rattle.log_join.specs.Stores.{StoreView, key_cmp, opening_at, fragment_at, IsOpeningOf, IsFragmentOf, IsStore, IsJoin, IsLastTerm, nothing}
use Rattle.log_join.specs.Answers.{answer, Puts, TellsOpening, TellsFragment}
use Rattle.log_join.specs.machinery.Contents.{taken, put_answer, shown, opening_part, fragment_part, TellsContent, FitsAt}
use Rattle.log_join.specs.machinery.Places.{Place, key_of, place_of, place_cmp}
use Rattle.frame_content.specs.machinery.Contents.{same_frame}
use Rattle.log_join.specs.machinery.Contents.{Fits, view_of, IsKept, IsMet}
use Rattle.log_join.proofs.Told.{guests_told, openings_told, fragments_told}
use Rattle.log_join.proofs.Maps.{tied_get}
use Rattle.log_join.proofs.Joins.{keys_total, keys_exact, one_store, join_absent}
use Rattle.log_join.proofs.Present.{some_there, there_some}
use Rattle.log_join.proofs.Shown.{Agrees, cell, one_fits, answer_is, fits_met, cell_shown, taken_shown, met_shown, same_shown, taken_fits}

-- ---- openings and fragments as parts of frames

pub openings_agree : Agrees opening_part same_opening
openings_agree = record { as_parts = as_openings; told = openings_told }
  where
    as_openings : (f g : Frame) (x y : OpeningParts) → opening_part f ≡ Some x → opening_part g ≡ Some y → same_frame f g ≡ same_opening x y
    as_openings (Opening a) (Opening b) x y d e = cc
    as_openings (Log a) g x y d e = absurd (cc d)
    as_openings (Opening a) (Log b) x y d e = absurd (cc e)

pub fragments_agree : Agrees fragment_part same_fragment
fragments_agree = record { as_parts = as_fragments; told = fragments_told }
  where
    as_fragments : (f g : Frame) (x y : FragmentParts) → fragment_part f ≡ Some x → fragment_part g ≡ Some y → same_frame f g ≡ same_fragment x y
    as_fragments (Log a) (Log b) x y d e = cc
    as_fragments (Opening a) g x y d e = absurd (cc d)
    as_fragments (Log a) (Opening b) x y d e = absurd (cc e)

pub places_total : IsTotalOrder place_cmp
places_total = on_total key_of keys_total

pub places_exact : (a b : Place) → place_cmp a b ≡ Equal → a ≡ b
places_exact a b h = ap place_of (keys_exact (key_of a) (key_of b) h)

-- ---- what a store keeps

pub is_store : (guest : GuestParts) (s : Shelves) → Fits guest s → IsStore (view_of guest s)
is_store guest s fits = record {
  openings = λ t o e. one_fits opening_part (IsOpeningOf guest t) (get nat_cmp s.openings t) o (fits.terms t)
      (sym (cell_shown nat_cmp_total (λ (z : ℕ). z) opening_part s.openings t) ∙ e);
  fragments = λ k f e. one_fits fragment_part (IsFragmentOf guest k) (get place_cmp s.fragments (place_of k)) f (fits.places (place_of k))
      (sym (cell_shown keys_total key_of fragment_part s.fragments (place_of k)) ∙ e);
}

pub same_view : (guest : GuestParts) (s n : Shelves) → IsKept s n → view_of guest n ≡ view_of guest s
same_view guest s n kept =
    one_store (view_of guest n) (view_of guest s) refl
    (λ t. same_shown nat_cmp_total (λ (z : ℕ). z) opening_part s.openings n.openings kept.terms t)
    (λ k. same_shown keys_total key_of fragment_part s.fragments n.fragments kept.places (place_of k))

pub met_view : (guest : GuestParts) (s other n : Shelves) → Fits guest s → Fits guest other → IsMet s other n → IsJoin (view_of guest s) (view_of guest other)
    (view_of guest n)
met_view guest s other n fits others meets = record {
  guest = refl;
  openings = λ t. met_shown nat_cmp_total (λ (z : ℕ). z) opening_part (IsOpeningOf guest) openings_agree s.openings other.openings n.openings fits.terms
      others.terms meets.terms t;
  fragments = λ k. met_shown keys_total key_of fragment_part (λ (p : Place). IsFragmentOf guest (key_of p)) fragments_agree s.fragments other.fragments
      n.fragments fits.places others.places meets.places (place_of k);
}

pub met_fits : (guest : GuestParts) (s other n : Shelves) → Fits guest s → Fits guest other → IsMet s other n → Fits guest n
met_fits guest s other n fits others meets = record {
  terms = λ t. subst (FitsAt opening_part (IsOpeningOf guest t)) (sym (meets.terms t)) (fits_met opening_part (IsOpeningOf guest t) (get nat_cmp s.openings t)
      (get nat_cmp other.openings t) (fits.terms t) (others.terms t));
  places = λ p. subst (FitsAt fragment_part (IsFragmentOf guest (key_of p))) (sym (meets.places p)) (fits_met fragment_part (IsFragmentOf guest (key_of p))
      (get place_cmp s.fragments p) (get place_cmp other.fragments p) (fits.places p) (others.places p));
}

-- ---- one frame

same_taken : (c : Option Content) (f : Frame) → put_answer c f ≡ Same → Some (taken c f) ≡ c
same_taken None f e = absurd (cc e)
same_taken (Some Clashed) f e = absurd (cc e)
same_taken (Some (OneFrame g)) f e =
    elim (same_frame g f) as (λ b. cond b Same Clashes ≡ Same → Some (cond b (OneFrame g) Clashed) ≡ Some (OneFrame g)) [
      | true ↦ λ _. refl
      | false ↦ λ h. absurd
          (cc h)
    ] e

never_other : (c : Option Content) (f : Frame) → put_answer c f ≢ OtherGuest
never_other None f e = cc e
never_other (Some Clashed) f e = cc e
never_other (Some (OneFrame g)) f e = elim (same_frame g f) as (λ b. cond b Same Clashes ≡ OtherGuest → ⊥) [ true ↦ λ h. cc h | false ↦ λ h. cc h ] e

-- what `put_at` did at a key
pub record IsTaken {K : Type 0} (cmp : K → K → Ordering) (m n : BTreeMap K Content) (k : K) (f : Frame) (result : Result Put Memory) : Type 0 where
  pub answers : IfOk result (λ p. p ≡ put_answer (get cmp m k) f)
  pub takes : OnOk result ((q : K) → get cmp n q ≡ cond (eq_by_cmp cmp k q) (Some (taken (get cmp m k) f)) (get cmp m q))
  pub keeps : OnErr result ((q : K) → get cmp n q ≡ get cmp m q)
  pub lacks : OnErr result (get cmp m k ≡ None)

module _ {K : Type 0} {cmp : K → K → Ordering} (total : IsTotalOrder cmp) (m n : BTreeMap K Content) (k : K) (f : Frame) where
  -- an equal frame changes nothing
  same_keeps : (p : Put) → IsTaken cmp m n k f (Ok p) → p ≡ Same → (q : K) → get cmp n q ≡ get cmp m q
  same_keeps p h e q =
      let same : Some (taken (get cmp m k) f) ≡ get cmp m k = same_taken (get cmp m k) f (sym h.answers ∙ e) in
      h.takes q
      ∙ elim (eq_by_cmp cmp k q) as (λ b. eq_by_cmp cmp k q ≡ b → cond b (Some (taken (get cmp m k) f)) (get cmp m q) ≡ get cmp m q) [
        | true ↦ λ t. same ∙ sym (tied_get total m k q t)
        | false ↦ λ t. refl
      ] refl

  not_other : (p : Put) → IsTaken cmp m n k f (Ok p) → p ≡ OtherGuest → ⊥
  not_other p h e = never_other (get cmp m k) f (sym h.answers ∙ e)

-- nothing else came
nothing_else : {K X : Type 0} {R : K → K → Ordering} (same : X → X → Bool) (m : finite.FinMap R (Option X)) (q : K) → cell_of (finite.get m q) ≡ join_cell same
    (cell_of (finite.get m q)) (cell_of (finite.get (finite.empty {X = Option X} {R = R}) q))
nothing_else {K} {X} {R} same m q = sym (ap (λ c. join_cell same (cell_of (finite.get m q)) (cell_of c)) (finite.get-empty R q) ∙ join_absent same _)

is_of_guest : (a b : GuestParts) → a ≡ b → same_guest a b ≡ true
is_of_guest a b e = (guests_told a b).1 e

pub puts_opening : (guest : GuestParts) (s : Shelves) (n : BTreeMap ℕ Content) (o : OpeningParts) (result : Result Put Memory) → Fits guest s → o.guest ≡ guest →
    IsTaken nat_cmp s.openings n o.term (Opening o) result → Puts (view_of guest s) (Opening o) result (view_of guest (record s { openings = n }))
puts_opening guest s n o (Ok p) fits own h =
    let here = get nat_cmp s.openings o.term in
    let there : cell_of (finite.get (shown nat_cmp (λ (z : ℕ). z) opening_part s.openings) o.term) ≡ cell opening_part here = cell_shown nat_cmp_total
    (λ (z : ℕ). z) opening_part s.openings o.term in
    record {
      answer = h.answers ∙ answer_is opening_part (IsOpeningOf guest o.term) openings_agree here (Opening o) o (fits.terms o.term) refl
          ∙ sym (ap (λ c. answer same_opening c o) there)
          ∙ sym (ap (λ b. cond b (answer same_opening (opening_at (view_of guest s) o.term) o) OtherGuest) (is_of_guest o.guest guest own));
      joined = λ _. record {
        guest = refl;
        openings = λ t. taken_shown nat_cmp_total (λ (z : ℕ). z) opening_part (IsOpeningOf guest) openings_agree s.openings n o.term
            (Opening o) o refl fits.terms h.takes nat_cmp_total t;
        fragments = λ k. nothing_else same_fragment (shown key_cmp key_of fragment_part s.fragments) k;
      };
      same = λ e. same_view guest s (record s { openings = n }) (record {
        terms = same_keeps nat_cmp_total s.openings n o.term (Opening o) p h (cc e);
        places = λ _. refl;
      });
      other_guest = λ e. absurd (not_other nat_cmp_total s.openings n o.term (Opening o) p h (cc e));
      memory = tt;
      err = tt;
    }
puts_opening guest s n o (Err x) fits own h =
    record {
      answer = tt;
      joined = tt;
      same = λ e. absurd (cc e);
      other_guest = λ e. absurd (cc e);
      memory = ap (λ b. cond b (answer same_opening (opening_at (view_of guest s) o.term) o) OtherGuest) (is_of_guest o.guest guest own)
          ∙ ap (λ c. answer same_opening c o) (cell_shown nat_cmp_total (λ (z : ℕ). z) opening_part s.openings o.term)
          ∙ ap (λ c. answer same_opening (cell opening_part c) o) h.lacks;
      err = same_view guest s (record s { openings = n }) (record { terms = h.keeps; places = λ _. refl });
    }

pub puts_fragment : (guest : GuestParts) (s : Shelves) (n : BTreeMap Place Content) (f : FragmentParts) (result : Result Put Memory) → Fits guest s →
    f.guest ≡ guest →
    IsTaken place_cmp s.fragments n (place_of f.key) (Log f) result → Puts (view_of guest s) (Log f) result (view_of guest (record s { fragments = n }))
puts_fragment guest s n f (Ok p) fits own h =
    let here = get place_cmp s.fragments (place_of f.key) in
    let there : cell_of (finite.get (shown key_cmp key_of fragment_part s.fragments) f.key) ≡ cell fragment_part here = cell_shown keys_total key_of
    fragment_part s.fragments (place_of f.key) in
    record {
      answer = h.answers ∙ answer_is fragment_part (IsFragmentOf guest f.key) fragments_agree here (Log f) f (fits.places (place_of f.key)) refl
          ∙ sym (ap (λ c. answer same_fragment c f) there)
          ∙ sym (ap (λ b. cond b (answer same_fragment (fragment_at (view_of guest s) f.key) f) OtherGuest) (is_of_guest f.guest guest own));
      joined = λ _. record {
        guest = refl;
        openings = λ t. nothing_else same_opening (shown nat_cmp (λ (z : ℕ). z) opening_part s.openings) t;
        fragments = λ k. taken_shown keys_total key_of fragment_part (λ (p : Place). IsFragmentOf guest (key_of p)) fragments_agree s.fragments n
            (place_of f.key) (Log f) f refl fits.places h.takes places_total (place_of k);
      };
      same = λ e. same_view guest s (record s { fragments = n }) (record {
        terms = λ _. refl;
        places = same_keeps places_total s.fragments n (place_of f.key)
            (Log f) p h (cc e);
      });
      other_guest = λ e. absurd (not_other places_total s.fragments n (place_of f.key) (Log f) p h (cc e));
      memory = tt;
      err = tt;
    }
puts_fragment guest s n f (Err x) fits own h =
    record {
      answer = tt;
      joined = tt;
      same = λ e. absurd (cc e);
      other_guest = λ e. absurd (cc e);
      memory = ap (λ b. cond b (answer same_fragment (fragment_at (view_of guest s) f.key) f) OtherGuest) (is_of_guest f.guest guest own)
          ∙ ap (λ c. answer same_fragment c f) (cell_shown keys_total key_of fragment_part s.fragments (place_of f.key))
          ∙ ap (λ c. answer same_fragment (cell fragment_part c) f) h.lacks;
      err = same_view guest s (record s { fragments = n }) (record { terms = λ _. refl; places = h.keeps });
    }

-- what stands at keys still fits after a frame came
pub opening_fits : (guest : GuestParts) (s : Shelves) (n : BTreeMap ℕ Content) (o : OpeningParts) (result : Result Put Memory) → Fits guest s →
    IsOpeningOf guest o.term o →
    IsTaken nat_cmp s.openings n o.term (Opening o) result → Fits guest (record s { openings = n })
opening_fits guest s n o (Ok p) fits own h = record {
  terms = taken_fits nat_cmp_total (λ (z : ℕ). z) opening_part (IsOpeningOf guest) s.openings n o.term (Opening o) o refl own exact_unsigned fits.terms h.takes;
  places = fits.places;
}
opening_fits guest s n o (Err x) fits own h = record {
  terms = λ t. subst (FitsAt opening_part (IsOpeningOf guest t)) (sym (h.keeps t)) (fits.terms t);
  places = fits.places;
}

pub fragment_fits : (guest : GuestParts) (s : Shelves) (n : BTreeMap Place Content) (f : FragmentParts) (result : Result Put Memory) → Fits guest s →
    IsFragmentOf guest f.key f →
    IsTaken place_cmp s.fragments n (place_of f.key) (Log f) result → Fits guest (record s { fragments = n })
fragment_fits guest s n f (Ok p) fits own h = record {
  terms = fits.terms;
  places = taken_fits keys_total key_of fragment_part (λ (p : Place). IsFragmentOf guest (key_of p)) s.fragments n (place_of f.key)
      (Log f) f refl own places_exact fits.places h.takes;
}
fragment_fits guest s n f (Err x) fits own h = record {
  terms = fits.terms;
  places = λ p. subst (FitsAt fragment_part (IsFragmentOf guest (key_of p))) (sym (h.keeps p)) (fits.places p);
}

-- ---- what is found

is_opening : (f : Frame) (o : OpeningParts) → opening_part f ≡ Some o → f ≡ Opening o
is_opening (Opening a) o e = cc
is_opening (Log a) o e = absurd (cc e)

is_fragment : (f : Frame) (o : FragmentParts) → fragment_part f ≡ Some o → f ≡ Log o
is_fragment (Log a) o e = cc
is_fragment (Opening a) o e = absurd (cc e)

pub tells_opening : (found : Found) (c : Option Content) (P : OpeningParts → Type 0) → TellsContent found c → FitsAt opening_part P c →
    TellsOpening found (cell opening_part c)
tells_opening FindsNone c P e h = ap (cell opening_part) e
tells_opening FindsClash c P e h = ap (cell opening_part) e
tells_opening (FindsOne r) c P e h =
    let own = subst (FitsAt opening_part P) e h in
    (own.0, is_opening r.now own.0 own.1, ap (cell opening_part) e ∙ ap (λ v. cell_of (Some v)) own.1)

pub tells_fragment : (found : Found) (c : Option Content) (P : FragmentParts → Type 0) → TellsContent found c → FitsAt fragment_part P c →
    TellsFragment found (cell fragment_part c)
tells_fragment FindsNone c P e h = ap (cell fragment_part) e
tells_fragment FindsClash c P e h = ap (cell fragment_part) e
tells_fragment (FindsOne r) c P e h =
    let own = subst (FitsAt fragment_part P) e h in
    (own.0, is_fragment r.now own.0 own.1, ap (cell fragment_part) e ∙ ap (λ v. cell_of (Some v)) own.1)

-- ---- copies

pub from_nothing : (guest : GuestParts) (a c : StoreView) → guest ≡ a.guest → IsJoin (nothing guest) a c → c ≡ a
from_nothing guest a c g h =
    one_store c a (h.guest ∙ g)
    (λ t. h.openings t ∙ ap (λ x. join_cell same_opening (cell_of x) (opening_at a t)) (finite.get-empty nat_cmp t))
    (λ k. h.fragments k ∙ ap (λ x. join_cell same_fragment (cell_of x) (fragment_at a k)) (finite.get-empty key_cmp k))

-- what holds in any case holds at an error
pub though_err : {T E : Type 0} (r : Result T E) (P : Type 0) → P → OnErr r P
though_err (Ok x) P p = tt
though_err (Err e) P p = p

-- ---- the greatest term

one_of_two : (m n : ℕ) → (max m n ≡ m) ⊎ (max m n ≡ n)
one_of_two m n =
    ⊎_elim
    (λ (h : m < n). let up : max m n ≤ n = max-le (omega arith) (omega arith) in inr (omega (arith, up, le-max_right m n)))
    (λ (h : n ≤ m). let up : max m n ≤ m = max-le (omega arith) (omega arith) in inl (omega (arith, up, le-max_left m n)))
    (cases_lt m n)

pub last_is : (guest : GuestParts) (s : Shelves) (opened logged : ℕ) →
    ((t : ℕ) → IsSome (get nat_cmp s.openings t) → t ≤ opened) → (opened ≡ 0) ⊎ IsSome (get nat_cmp s.openings opened) →
    ((p : Place) → IsSome (get place_cmp s.fragments p) → p.term ≤ logged) → (logged ≡ 0) ⊎ ((p : Place) × (p.term ≡ logged) ×
    IsSome (get place_cmp s.fragments p)) →
    IsLastTerm (view_of guest s) (max opened logged)
last_is guest s opened logged above own over held =
    let last = max opened logged in
    let open_cell = λ (t : ℕ). cell_shown nat_cmp_total (λ (z : ℕ). z) opening_part s.openings t in
    let log_cell = λ (p : Place). cell_shown keys_total key_of fragment_part s.fragments p in
    let view = view_of guest s in
    record {
      openings = λ t h. le_trans (above t (some_there opening_part (get nat_cmp s.openings t) (λ e. h (open_cell t ∙ e)))) (le-max_left opened logged);
      fragments = λ k h. le_trans (over (place_of k) (some_there fragment_part (get place_cmp s.fragments (place_of k)) (λ e. h (log_cell (place_of k) ∙ e))))
          (le-max_right opened logged);
      there = ⊎_elim
          (λ e. subst (λ (n : ℕ). (n ≡ 0) ⊎ ((opening_at view n ≢ Absent) ⊎ ((key : Key) × (key.term ≡ n) × (fragment_at view key ≢ Absent)))) (sym e)
          (⊎_elim inl (λ h. inr (inl (λ a. there_some opening_part (get nat_cmp s.openings opened) h (sym (open_cell opened) ∙ a)))) own))
          (λ e. subst (λ (n : ℕ). (n ≡ 0) ⊎ ((opening_at view n ≢ Absent) ⊎ ((key : Key) × (key.term ≡ n) × (fragment_at view key ≢ Absent)))) (sym e)
          (⊎_elim inl (λ h. inr (inr (key_of h.0, h.1, λ a. there_some fragment_part (get place_cmp s.fragments h.0) h.2 (sym (log_cell h.0) ∙ a)))) held))
          (one_of_two opened logged);
    }
  where
    le_trans : {a b c : ℕ} → a ≤ b → b ≤ c → a ≤ c
    le_trans h k = omega arith
