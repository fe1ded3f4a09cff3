-- Whether a plan goes on where another one ends.
use Rattle.std.proofs.Common.{◌≡◌, ◌<◌, ◌≤◌, ◌+◌, ◌-◌, ◌++◌, ℕ, zero, suc, List, [], ◌∷◌, length, map, take, drop, get_or, slice_get, Option, Some, None, refl}
use Rattle.std.proofs.Common.{sym, ap, subst, ◌∙◌, arith, add-one, length-append, drop-cons}
use Rattle.std.proofs.lemmas.List.{length-map, map-append, take_all, take_more, take-append-drop}
use Rattle.hart_replay.specs.declared.plans.PlannedLeg.{PlannedLeg}
use Rattle.hart_replay.specs.GoingOn.{AreAlike, BeginsLeg, IsFront, GoOnFrom, but_notes}

-- ---- places of a list

pub at_place : {A : Type 0} (xs : List A) (i : ℕ) (x : A) → i < length xs → x ≡ get_or xs i x → slice_get xs i ≡ Some x
at_place [] i x lt is = absurd (omega (arith, lt))
at_place (y ∷ xs) zero x lt is = ap Some (sym is)
at_place (y ∷ xs) (suc i) x lt is = at_place xs i x (omega (arith, lt)) is

pub there : {A : Type 0} (xs : List A) (i : ℕ) (x : A) → slice_get xs i ≡ Some x → (i < length xs) × (x ≡ get_or xs i x)
there [] i x is = cc
there (y ∷ xs) zero x is = (omega arith, cc)
there (y ∷ xs) (suc i) x is = let (lt, same) = there xs i x is in (omega (arith, lt), same)

pub past_all : {A : Type 0} (xs : List A) (i : ℕ) → length xs ≤ i → slice_get xs i ≡ None
past_all [] i le = refl
past_all (y ∷ xs) zero le = absurd (omega (arith, le))
past_all (y ∷ xs) (suc i) le = past_all xs i (omega (arith, le))

pub at_seam : {A : Type 0} (front : List A) (x : A) (back : List A) → slice_get (front ++ x ∷ back) (length front) ≡ Some x
at_seam [] x back = refl
at_seam (y ∷ front) x back = at_seam front x back

pub seam_within : {A : Type 0} (front : List A) (x : A) (back : List A) → length front < length (front ++ x ∷ back)
seam_within [] x back = omega arith
seam_within (y ∷ front) x back = let rest = seam_within front x back in omega (arith, rest)

-- ---- legs that are alike

-- there are as many
pub many_alike : (front same : List PlannedLeg) → AreAlike front same → length same ≡ length front
many_alike front same alike = sym (length-map same but_notes) ∙ ap length alike ∙ length-map front but_notes

-- one more
pub more_alike : (front same : List PlannedLeg) (leg other : PlannedLeg) → AreAlike front same → but_notes other ≡ but_notes leg →
    AreAlike (front ++ leg ∷ []) (same ++ other ∷ [])
more_alike front same leg other alike one =
    map-append but_notes same (other ∷ [])
    ∙ (λ i. alike i ++ one i ∷ [])
    ∙ sym (map-append but_notes front (leg ∷ []))

pub next_is : (old new : List PlannedLeg) (on : GoOnFrom old new) (first : ℕ) (leg : PlannedLeg) → first + 1 ≡ length old → first < length new →
    leg ≡ get_or new first leg → on.next ≡ leg
next_is old new on first leg many within is =
    let all : length old ≡ length on.front + 1 = ap length on.was ∙ length-append on.front (on.last ∷ []) in
    let same : length on.same ≡ first = omega (arith, many, all, many_alike on.front on.same on.alike) in
    let here : slice_get new first ≡ Some on.next =
    ap (slice_get new) (sym same) ∙ ap (λ (xs : List PlannedLeg). slice_get xs (length on.same)) on.is ∙ at_seam on.same on.next on.back in
    let both : Some on.next ≡ Some leg = sym here ∙ at_place new first leg within is in
    cc

-- ---- whether a plan goes on from another

taken_front : {A : Type 0} (front rest : List A) → take (length front) (front ++ rest) ≡ front
taken_front [] rest = refl
taken_front (x ∷ front) rest = ap (λ xs. x ∷ xs) (taken_front front rest)

taken_many : {A : Type 0} (n : ℕ) (xs : List A) → n ≤ length xs → length (take n xs) ≡ n
taken_many zero xs le = refl
taken_many (suc n) [] le = absurd (omega (arith, le))
taken_many (suc n) (x ∷ xs) le = ap suc (taken_many n xs (omega (arith, le)))

-- the front of one plan begins the other
pub front_of : (old new : List PlannedLeg) → GoOnFrom old new → IsFront (take (length old - 1) old) new
front_of old new on =
    let all : length old ≡ length on.front + 1 = ap length on.was ∙ length-append on.front (on.last ∷ []) in
    let same : length on.front ≡ length old - 1 = omega (arith, all) in
    let front : take (length old - 1) old ≡ on.front =
    ap (λ (n : ℕ). take n old) (sym same) ∙ ap (take (length on.front)) on.was ∙ taken_front on.front (on.last ∷ []) in
    (on.same, on.next ∷ on.back, on.is, subst (λ (xs : List PlannedLeg). AreAlike xs on.same) (sym front) on.alike)

module _ (old new : List PlannedLeg) (last : ℕ) (first next : PlannedLeg) (many : last + 1 ≡ length old) (is_first : first ≡ get_or old last first)
    (within : last < length new) (is_next : next ≡ get_or new last next) where
  pub go_on_is : IsFront (take last old) new → BeginsLeg first next → GoOnFrom old new
  go_on_is (same, rest, is, alike) begins =
      let lt : last < length old = omega (arith, many) in
      let so_many : length same ≡ last = many_alike (take last old) same alike ∙ taken_many last old (omega (arith, lt)) in
      let front : take last new ≡ same = ap (λ (n : ℕ). take n new) (sym so_many) ∙ ap (take (length same)) is ∙ taken_front same rest in
      record {
        front = take last old;
        last = first;
        same = take last new;
        next = next;
        back = drop (last + 1) new;
        was =
            sym (take_all (last + 1) old (omega (arith, many)))
            ∙ take_more old last first lt
            ∙ ap (λ (x : PlannedLeg). take last old ++ x ∷ []) (sym is_first);
        is =
            sym (take-append-drop last new)
            ∙ ap (λ (xs : List PlannedLeg). take last new ++ xs)
            (drop-cons new last next within
            ∙ ap (λ (x : PlannedLeg). x ∷ drop (suc last) new) (sym is_next)
            ∙ ap (λ (k : ℕ). next ∷ drop k new) (sym (add-one last)));
        alike = ap (map but_notes) front ∙ alike;
        begins = begins;
      }

  pub go_on_of : GoOnFrom old new → IsFront (take last old) new × BeginsLeg first next
  go_on_of on =
      let all : length old ≡ length on.front + 1 = ap length on.was ∙ length-append on.front (on.last ∷ []) in
      let same : length on.front ≡ last = omega (arith, many, all) in
      let front : take last old ≡ on.front =
      ap (λ (n : ℕ). take n old) (sym same) ∙ ap (take (length on.front)) on.was ∙ taken_front on.front (on.last ∷ []) in
      let here : slice_get old last ≡ Some on.last =
      ap (slice_get old) (sym same) ∙ ap (λ (xs : List PlannedLeg). slice_get xs (length on.front)) on.was ∙ at_seam on.front on.last [] in
      let both : Some on.last ≡ Some first = sym here ∙ at_place old last first (omega (arith, many)) is_first in
      let is : on.last ≡ first = cc in
      let follows = next_is old new on last next many within is_next in (
        (on.same, on.next ∷ on.back, on.is, subst (λ (xs : List PlannedLeg). AreAlike xs on.same) (sym front) on.alike),
        subst (λ (x : PlannedLeg). BeginsLeg x next) is (subst (λ (x : PlannedLeg). BeginsLeg on.last x) follows on.begins),
      )

-- ---- one list of legs in front of another

-- they are no more
pub front_fits : (first second : List PlannedLeg) → IsFront first second → length first ≤ length second
front_fits first second (same, rest, is, alike) =
    let all : length second ≡ length (same ++ rest) = ap length is in
    omega (arith, many_alike first same alike, all, length-append same rest)

-- each is the one at its place, but for what it notes
at_front : (first second : List PlannedLeg) → IsFront first second → (i : ℕ) (d e : PlannedLeg) → i < length first →
    but_notes (get_or second i e) ≡ but_notes (get_or first i d)
at_front [] second front i d e lt = absurd (omega (arith, lt))
at_front (leg ∷ first) second ([], rest, is, alike) i d e lt = cc
at_front (leg ∷ first) second (s ∷ same, rest, is, alike) zero d e lt =
    let one : but_notes s ≡ but_notes leg = cc in ap (λ (xs : List PlannedLeg). but_notes (get_or xs zero e)) is ∙ one
at_front (leg ∷ first) second (s ∷ same, rest, is, alike) (suc i) d e lt =
    let others : map but_notes same ≡ map but_notes first = cc in
    ap (λ (xs : List PlannedLeg). but_notes (get_or xs (suc i) e)) is
    ∙ at_front first (same ++ rest) (same, rest, refl, others) i d e (omega (arith, lt))

pub front_here : (first second : List PlannedLeg) → IsFront first second → (i : ℕ) (leg other : PlannedLeg) → i < length first →
    leg ≡ get_or first i leg → other ≡ get_or second i other → but_notes other ≡ but_notes leg
front_here first second front i leg other lt is is_other =
    ap but_notes is_other ∙ at_front first second front i leg other lt ∙ sym (ap but_notes is)

-- one place further
pub alike_on : (first second : List PlannedLeg) (i : ℕ) (d e : PlannedLeg) → i < length first → i < length second →
    AreAlike (take i first) (take i second) → but_notes (get_or second i e) ≡ but_notes (get_or first i d) →
    AreAlike (take (i + 1) first) (take (i + 1) second)
alike_on first second i d e lt within so_far one =
    subst (λ (xs : List PlannedLeg). AreAlike xs (take (i + 1) second)) (sym (take_more first i d lt))
    (subst (λ (xs : List PlannedLeg). AreAlike (take i first ++ get_or first i d ∷ []) xs) (sym (take_more second i e within))
    (more_alike (take i first) (take i second) (get_or first i d) (get_or second i e) so_far one))

-- up to the end of the first
pub all_alike : (first second : List PlannedLeg) (n : ℕ) → length first ≤ n → AreAlike (take n first) (take n second) → IsFront first second
all_alike first second n end so_far = (
  take n second,
  drop n second,
  sym (take-append-drop n second),
  subst (λ (xs : List PlannedLeg). AreAlike xs (take n second)) (take_all n first end) so_far,
)
