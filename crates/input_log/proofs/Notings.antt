-- Notes of one hart, and one more of them.
use Rattle.std.proofs.Common.{◌≡◌, ◌≢◌, ℕ, zero, suc, ◌+◌, ◌-◌, ◌<◌, ◌≤◌, true, false, List, [], ◌∷◌, ◌++◌, length, get_or, set, take, drop, arith}
use Rattle.std.proofs.Common.{refl, sym, ap, subst, ◌∙◌, inl, inr, le_refl, le_trans, All, AllPairs, append-nil, nat_lt}
use Rattle.std.proofs.Common.{take-append-drop, ◌==◌, ◌&&◌, max}
use Rattle.std.specs.List.{AllWithin, filter}
use Rattle.std.specs.List.Sorted.{IsNonDecreasingBy}
use Rattle.std.specs.Bool.{Decides}
use Rattle.std.proofs.lemmas.Bool.{cases_lt, lt-ltb, le-ltb}
use Rattle.std.proofs.lemmas.Bool.Decides.{Decides-and, Decides-eqb, Decides-like}
use Rattle.std.proofs.lemmas.List.{get_or_append_left, get_or-append-add, take_more, length_push, take_all, get_or_default}
use Rattle.std.proofs.lemmas.List.Elements.{All-head, All-tail, All-push, All-filter, filter-append}
use Rattle.std.proofs.lemmas.List.Quantifiers.{all_pairs_push}
use Rattle.input_log.specs.Notes.{greatest, noted, IsNotedBefore, IsNote, AreNotes, NotesMore}
use Rattle.input_log.proofs.Rows.{filter_all, filter_none, all_front, all_back}

pub note_decides : (a b : ℕ × ℕ) → Decides (a.0 == b.0 && a.1 == b.1) (a ≡ b)
note_decides a b =
    Decides-like _ (λ p i. (p.0 i, p.1 i)) (λ e. (ap (λ (k : ℕ × ℕ). k.0) e, ap (λ (k : ℕ × ℕ). k.1) e))
    (Decides-and _ _ (Decides-eqb a.0 b.0) (Decides-eqb a.1 b.1))

-- ---- the greatest number

pub greatest_push : (xs : List (ℕ × ℕ)) (y : ℕ × ℕ) → All (λ x. x.1 < y.1) xs → greatest (xs ++ y ∷ []) ≡ y.1
greatest_push [] y all = omega arith
greatest_push (x ∷ xs) y all =
    let less : x.1 < y.1 = All-head (λ (z : ℕ × ℕ). z.1 < y.1) x xs all in
    omega (arith, greatest_push xs y (All-tail (λ (z : ℕ × ℕ). z.1 < y.1) x xs all))

-- what is so of each note before the last of rising ones
pub before_last : (front : List (ℕ × ℕ)) (y : ℕ × ℕ) → AllPairs IsNotedBefore (front ++ y ∷ []) → All (λ x. IsNotedBefore x y) front
before_last front y rising k d below =
    let last : get_or (front ++ y ∷ []) (length front) d ≡ y = ap (λ n. get_or (front ++ y ∷ []) n d) (omega arith) ∙ get_or-append-add front (y ∷ []) 0 d in
    let here : get_or (front ++ y ∷ []) k d ≡ get_or front k d = get_or_append_left front (y ∷ []) d k below in
    let b : IsNotedBefore (get_or (front ++ y ∷ []) k d) (get_or (front ++ y ∷ []) (length front) d) =
    rising k (length front) d below (omega (arith, length_push front y)) in
    rw (here, last) at b

pub greatest_last : (front : List (ℕ × ℕ)) (y : ℕ × ℕ) → AllPairs IsNotedBefore (front ++ y ∷ []) → greatest (front ++ y ∷ []) ≡ y.1
greatest_last front y rising = greatest_push front y (λ k d below. (before_last front y rising k d below).number)

-- some notes are others and the last one
pub last_of : (xs : List (ℕ × ℕ)) (d : ℕ × ℕ) → 0 < length xs → xs ≡ take (length xs - 1) xs ++ get_or xs (length xs - 1) d ∷ []
last_of xs d some =
    let n : length xs - 1 + 1 ≡ length xs = omega arith in
    sym (take_all (length xs) xs (le_refl (length xs))) ∙ ap (λ k. take k xs) (sym n) ∙ take_more xs (length xs - 1) d (omega arith)

-- ---- one note more

fronts_pairs : (front : List (ℕ × ℕ)) (y : ℕ × ℕ) → AllPairs IsNotedBefore (front ++ y ∷ []) → AllPairs IsNotedBefore front
fronts_pairs front y rising k l d less below =
    let b : IsNotedBefore (get_or (front ++ y ∷ []) k d) (get_or (front ++ y ∷ []) l d) = rising k l d less (omega (arith, length_push front y)) in
    rw (get_or_append_left front (y ∷ []) d k (omega arith), get_or_append_left front (y ∷ []) d l below) at b

fronts_each : (front : List (ℕ × ℕ)) (y : ℕ × ℕ) → All IsNote (front ++ y ∷ []) → All IsNote front
fronts_each front y each k d below =
    let b : IsNote (get_or (front ++ y ∷ []) k d) = each k d (omega (arith, length_push front y)) in
    rw (get_or_append_left front (y ∷ []) d k below) at b

module _ (front : List (ℕ × ℕ)) (at number : ℕ) where
  -- behind notes of earlier counts and lower numbers it is the last
  pub noted_last : All (λ x. x.0 < at) front → greatest front < number → noted front at number ≡ front ++ (at, number) ∷ []
  noted_last before less =
      rw (lt-ltb (greatest front) number less)
      (ap (λ l. l ++ (at, number) ∷ [])
      (filter_all (λ x. nat_lt x.0 at) front (λ k d below. lt-ltb (get_or front k d).0 at (before k d below))))

  -- it takes the place of one at the same count
  pub noted_over : (n : ℕ) → AllPairs IsNotedBefore (front ++ (at, n) ∷ []) → n < number →
      noted (front ++ (at, n) ∷ []) at number ≡ front ++ (at, number) ∷ []
  noted_over n rising less =
      let most : greatest (front ++ (at, n) ∷ []) ≡ n = greatest_last front (at, n) rising in
      let stays : filter (λ x. nat_lt x.0 at) front ≡ front =
      filter_all (λ x. nat_lt x.0 at) front (λ k d below. lt-ltb (get_or front k d).0 at ((before_last front (at, n) rising k d below).count)) in
      rw (most, lt-ltb n number less, filter-append (λ x. nat_lt x.0 at) front ((at, n) ∷ []), stays, le-ltb at at (le_refl at), append-nil front) refl

  pub notes_last : AreNotes front → All (λ x. IsNotedBefore x (at, number)) front → 1 ≤ number → number ≤ at → AreNotes (front ++ (at, number) ∷ [])
  notes_last rules before some within =
      record {
        rising = all_pairs_push IsNotedBefore front (at, number) rules.rising (λ k d below. before k d below);
        each = All-push IsNote front (at, number) rules.each (record { some = some; within = within });
      }

  pub notes_over : (n : ℕ) → AreNotes (front ++ (at, n) ∷ []) → n < number → number ≤ at → AreNotes (front ++ (at, number) ∷ [])
  notes_over n rules less within =
      let lower : All (λ x. IsNotedBefore x (at, n)) front = before_last front (at, n) rules.rising in
      notes_last
      (record { rising = fronts_pairs front (at, n) rules.rising; each = fronts_each front (at, n) rules.each })
      (λ k d below.
      let b : IsNotedBefore (get_or front k d) (at, n) = lower k d below in
      let l : (get_or front k d).1 < n = b.number in
      record { count = b.count; number = omega arith })
      (omega arith) within

-- a note that is not above the greatest is dropped
pub noted_dropped : (notes : List (ℕ × ℕ)) (at number : ℕ) → number ≤ greatest notes → noted notes at number ≡ notes
noted_dropped notes at number most = rw (le-ltb (greatest notes) number most) refl

pub most_is : (xs : List (ℕ × ℕ)) (n : ℕ) → greatest xs < n → All (λ x. x.1 < n) xs
most_is [] n less k d below = absurd (omega arith)
most_is (x ∷ xs) n less zero d below = omega arith
most_is (x ∷ xs) n less (suc k) d below = most_is xs n (omega arith) k d (omega arith)

-- the last note makes way
pub set_last : (notes front : List (ℕ × ℕ)) (x y : ℕ × ℕ) → notes ≡ front ++ x ∷ [] → set notes (length notes - 1) y ≡ front ++ y ∷ []
set_last notes front x y is =
    let size : length (front ++ x ∷ []) - 1 ≡ length front = omega (arith, length_push front x) in
    rw (is, size) (set_behind front x y)
  where
    set_behind : (front : List (ℕ × ℕ)) (x y : ℕ × ℕ) → set (front ++ x ∷ []) (length front) y ≡ front ++ y ∷ []
    set_behind [] x y = refl
    set_behind (z ∷ front) x y = ap (λ l. z ∷ l) (set_behind front x y)

-- ---- notes below a count

module _ (xs : List (ℕ × ℕ)) (n i : ℕ) (within : i ≤ length xs) (before : AllWithin (λ x. x.0 < n) xs 0 i)
    (from : AllWithin (λ x. n ≤ x.0) xs i (length xs)) where
  pub all_below : filter (λ x. nat_lt x.0 n) xs ≡ take i xs
  all_below =
      let part : filter (λ x. nat_lt x.0 n) (take i xs) ≡ take i xs =
      filter_all (λ x. nat_lt x.0 n) (take i xs)
      (all_front (λ x. nat_lt x.0 n ≡ true) xs i within (λ k d a b. lt-ltb (get_or xs k d).0 n (before k d a b))) in
      let rest : filter (λ x. nat_lt x.0 n) (drop i xs) ≡ [] =
      filter_none (λ x. nat_lt x.0 n) (drop i xs)
      (all_back (λ x. nat_lt x.0 n ≡ false) xs i within (λ k d a b. le-ltb (get_or xs k d).0 n (from k d a b))) in
      ap (filter (λ x. nat_lt x.0 n)) (sym (take-append-drop i xs)) ∙ filter-append (λ x. nat_lt x.0 n) (take i xs) (drop i xs) ∙
      rw (part, rest) (append-nil (take i xs))

pub counts_rise : (xs : List (ℕ × ℕ)) → AllPairs IsNotedBefore xs → IsNonDecreasingBy (λ x. x.0) xs
counts_rise xs rising k l d less below = elim (cases_lt k l) [
  | inl before ↦
      let b : IsNotedBefore (get_or xs k d) (get_or xs l d) = rising k l d before below in
      let c : (get_or xs k d).0 < (get_or xs l d).0 = b.count in
      omega arith
  | inr same ↦ let e : k ≡ l = omega arith in rw e (le_refl (get_or xs l d).0)
]

-- where the first note that is not of an earlier count is of a later one, none is of this one
pub none_at : (xs : List (ℕ × ℕ)) (n i : ℕ) → AreNotes xs → AllWithin (λ x. x.0 < n) xs 0 i → AllWithin (λ x. n ≤ x.0) xs i (length xs) →
    ((d : ℕ × ℕ) → i < length xs → (get_or xs i d).0 ≢ n) → All (λ x. x.0 ≢ n) xs
none_at xs n i rules before from other k d below same = elim (cases_lt k i) [
  | inl less ↦ let l : (get_or xs k d).0 < n = before k d (omega arith) less in absurd (omega arith)
  | inr more ↦
      let first : n ≤ (get_or xs i d).0 = from i d (le_refl i) (omega arith) in
      let up : (get_or xs i d).0 ≤ (get_or xs k d).0 = counts_rise xs rules.rising i k d more below in
      absurd (other d (omega arith) (omega arith))
]

-- the last note is of the latest count
pub by_last : (xs : List (ℕ × ℕ)) (n : ℕ) (f : ℕ × ℕ) → AreNotes xs → 0 < length xs → (get_or xs (length xs - 1) f).0 < n → All (λ x. x.0 < n) xs
by_last xs n f rules some last k d below =
    let same : get_or xs (length xs - 1) f ≡ get_or xs (length xs - 1) d = get_or_default xs (length xs - 1) f d (omega arith) in
    let up : (get_or xs k d).0 ≤ (get_or xs (length xs - 1) d).0 = counts_rise xs rules.rising k (length xs - 1) d (omega arith) (omega arith) in
    let l : (get_or xs (length xs - 1) d).0 < n = subst (λ (x : ℕ × ℕ). x.0 < n) same last in
    omega arith

pub ends_in : (xs : List (ℕ × ℕ)) (n : ℕ) (d : ℕ × ℕ) → 0 < length xs → (get_or xs (length xs - 1) d).0 ≡ n →
    (front : List (ℕ × ℕ)) × (m : ℕ) × (xs ≡ front ++ (n, m) ∷ [])
ends_in xs n d some is =
    let last = get_or xs (length xs - 1) d in (
      take (length xs - 1) xs,
      last.1,
      last_of xs d some ∙ ap (λ (k : ℕ). take (length xs - 1) xs ++ (k, last.1) ∷ []) is,
    )

-- where the last note is of an earlier count than all others may be of, all are
pub before_end : (xs : List (ℕ × ℕ)) (n : ℕ) → AreNotes xs → All (λ x. x.0 ≤ n) xs → 0 < length xs → (get_or xs (length xs - 1) (0, 0)).0 ≢ n →
    All (λ x. x.0 < n) xs
before_end xs n rules most some other =
    let last : (get_or xs (length xs - 1) (0, 0)).0 ≤ n = most (length xs - 1) (0, 0) (omega arith) in
    by_last xs n (0, 0) rules some (omega arith)

-- ---- notes that go on

pub notes_same : (notes : List (ℕ × ℕ)) (count : ℕ) → NotesMore notes count notes
notes_same notes count = record { below = refl; kept = le_refl (greatest notes) }

-- what is before the lesser count is before the greater one
fewer_of : (xs : List (ℕ × ℕ)) (m n : ℕ) → m ≤ n → filter (λ x. nat_lt x.0 m) (filter (λ x. nat_lt x.0 n) xs) ≡ filter (λ x. nat_lt x.0 m) xs
fewer_of [] m n le = refl
fewer_of (x ∷ xs) m n le = elim (cases_lt x.0 n) [
  | inl less ↦
      elim (cases_lt x.0 m) [
        | inl early ↦ rw (lt-ltb x.0 n less, lt-ltb x.0 m early) (ap (λ (row : List (ℕ × ℕ)). x ∷ row) (fewer_of xs m n le))
        | inr late ↦ rw (lt-ltb x.0 n less, le-ltb x.0 m late) (fewer_of xs m n le)
      ]
  | inr more ↦ rw (le-ltb x.0 n more, le-ltb x.0 m (le_trans le more)) (fewer_of xs m n le)
]

pub notes_more_on : (a b c : List (ℕ × ℕ)) (m n : ℕ) → m ≤ n → NotesMore a m b → NotesMore b n c → NotesMore a m c
notes_more_on a b c m n le p q =
    record {
      below = sym (fewer_of c m n le) ∙ ap (filter (λ x. nat_lt x.0 m)) q.below ∙ fewer_of b m n le ∙ p.below;
      kept = le_trans p.kept q.kept;
    }

pub greatest_append : (xs ys : List (ℕ × ℕ)) → greatest (xs ++ ys) ≡ max (greatest xs) (greatest ys)
greatest_append [] ys = omega arith
greatest_append (x ∷ xs) ys = omega (arith, greatest_append xs ys)

greatest_behind : (xs : List (ℕ × ℕ)) (y : ℕ × ℕ) → y.1 ≤ greatest (xs ++ y ∷ [])
greatest_behind [] y = omega arith
greatest_behind (x ∷ xs) y = omega (arith, greatest_behind xs y)

-- one note more, at this count
pub noted_more : (notes : List (ℕ × ℕ)) (at number : ℕ) → NotesMore notes at (noted notes at number)
noted_more notes at number = elim (cases_lt (greatest notes) number) [
  | inl less ↦
      (let before : List (ℕ × ℕ) = filter (λ x. nat_lt x.0 at) notes in
      let is : noted notes at number ≡ before ++ (at, number) ∷ [] = rw (lt-ltb (greatest notes) number less) refl in
      subst (NotesMore notes at) (sym is)
      (record {
        below =
            filter-append (λ x. nat_lt x.0 at) before ((at, number) ∷ [])
            ∙ rw (fewer_of notes at at (le_refl at), le-ltb at at (le_refl at)) (append-nil before);
        kept = omega (arith, greatest_behind before (at, number));
      }))
  | inr most ↦ subst (NotesMore notes at) (sym (noted_dropped notes at number most)) (notes_same notes at)
]

-- no note is at a later count than those were, or than this one
pub noted_within : (notes : List (ℕ × ℕ)) (at number n : ℕ) → at ≤ n → All (λ x. x.0 ≤ n) notes → All (λ x. x.0 ≤ n) (noted notes at number)
noted_within notes at number n le all = elim (cases_lt (greatest notes) number) [
  | inl less ↦
      (let is : noted notes at number ≡ filter (λ x. nat_lt x.0 at) notes ++ (at, number) ∷ [] = rw (lt-ltb (greatest notes) number less) refl in
      subst (All (λ x. x.0 ≤ n)) (sym is)
      (All-push (λ x. x.0 ≤ n) (filter (λ x. nat_lt x.0 at) notes) (at, number) (All-filter (λ x. nat_lt x.0 at) (λ x. x.0 ≤ n) notes all) le))
  | inr most ↦ subst (All (λ x. x.0 ≤ n)) (sym (noted_dropped notes at number most)) all
]
