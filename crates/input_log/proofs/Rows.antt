-- Rows of counts, each with an input.
use Rattle.std.proofs.Common.{◌≡◌, ℕ, ◌+◌, ◌-◌, ◌<◌, ◌≤◌, Bool, true, false, List, [], ◌∷◌, ◌++◌, length, get_or, take, drop, map, replicate, zero, suc}
use Rattle.std.proofs.Common.{append_assoc, length-append, arith, refl, sym, ap, subst, ◌∙◌, inl, inr, le_trans, le_refl, All, length-drop, length-take}
use Rattle.std.proofs.Common.{take-append-drop, ◌==◌, eq-eqb, ne_eqb, append-nil}
use Rattle.std.specs.List.{AllWithin, Any, filter, zip}
use Rattle.std.specs.List.Sorted.{IsNonDecreasing}
use Rattle.std.proofs.lemmas.Bool.{cases_lt, cases_eq}
use Rattle.std.proofs.lemmas.List.{get_or-take, get_or-drop, get_or_default, length-map, take-map, drop-map, length_push}
use Rattle.std.proofs.lemmas.List.Elements.{All-head, All-tail, All-push, filter-append}
use Rattle.std.proofs.lemmas.List.Sorted.{IsNonDecreasingBy-push, IsNonDecreasingBy-take}
use Rattle.std.proofs.lemmas.Slice.Zip.{get_or-zip, firsts-zip, seconds-zip}
use Rattle.ft_types.specs.declared.names.TheConstants.{INPUT_LIMIT}
use Rattle.input_log.specs.declared.Input.{Input}
use Rattle.input_log.specs.declared.Input.TheVariants.{Timer}
use Rattle.input_log.specs.Inputs.{inputs_at, MayFollow, IsRow}
use Rattle.input_log.proofs.Added.{at_append, at_same}

-- ---- the elements whose number is n, in a list where these numbers rise

module _ {A : Type 0} where
  pub all_front : (P : A → Type 0) (xs : List A) (i : ℕ) → i ≤ length xs → AllWithin P xs 0 i → All P (take i xs)
  all_front P xs i within all k d below =
      let less : k < i = omega (arith, length-take i xs) in
      rw (get_or-take i xs k d less) (all k d (omega arith) less)

  pub all_back : (P : A → Type 0) (xs : List A) (i : ℕ) → i ≤ length xs → AllWithin P xs i (length xs) → All P (drop i xs)
  all_back P xs i within all k d below =
      rw (get_or-drop i xs k d) (all (i + k) d (omega arith) (omega (arith, length-drop i xs)))

  pub filter_none : (p : A → Bool) (xs : List A) → All (λ x. p x ≡ false) xs → filter p xs ≡ []
  filter_none p [] none = refl
  filter_none p (x ∷ xs) none = rw (All-head (λ e. p e ≡ false) x xs none) (filter_none p xs (All-tail (λ e. p e ≡ false) x xs none))

  pub filter_all : (p : A → Bool) (xs : List A) → All (λ x. p x ≡ true) xs → filter p xs ≡ xs
  filter_all p [] all = refl
  filter_all p (x ∷ xs) all =
      rw (All-head (λ e. p e ≡ true) x xs all) (ap (λ l. x ∷ l) (filter_all p xs (All-tail (λ e. p e ≡ true) x xs all)))

  module _ (number : A → ℕ) (xs : List A) (n : ℕ) where
    pub elements_at : (i j : ℕ) → i ≤ length xs → j ≤ length (drop i xs) →
        AllWithin (λ x. number x < n) xs 0 i → AllWithin (λ x. n ≤ number x) xs i (length xs) →
        AllWithin (λ x. number x ≤ n) (drop i xs) 0 j → AllWithin (λ x. n < number x) (drop i xs) j (length (drop i xs)) →
        take j (drop i xs) ≡ filter (λ x. number x == n) xs
    elements_at i j within_i within_j before from upto after =
        let none : filter (λ x. number x == n) (take i xs) ≡ [] =
        filter_none (λ x. number x == n) (take i xs)
        (all_front (λ x. (number x == n) ≡ false) xs i within_i
        (λ k d a b. ne_eqb (number (get_or xs k d)) n (let l : number (get_or xs k d) < n = before k d a b in omega arith))) in
        let all : filter (λ x. number x == n) (take j (drop i xs)) ≡ take j (drop i xs) =
        filter_all (λ x. number x == n) (take j (drop i xs))
        (all_front (λ x. (number x == n) ≡ true) (drop i xs) j within_j
        (λ k d a b. eq-eqb (number (get_or (drop i xs) k d)) n
        (let l : number (get_or (drop i xs) k d) ≤ n = upto k d a b in let m : n ≤ number (get_or (drop i xs) k d) = later k d (omega arith) in omega arith)))
        in
        let over : filter (λ x. number x == n) (drop j (drop i xs)) ≡ [] =
        filter_none (λ x. number x == n) (drop j (drop i xs))
        (all_back (λ x. (number x == n) ≡ false) (drop i xs) j within_j
        (λ k d a b. ne_eqb (number (get_or (drop i xs) k d)) n (let l : n < number (get_or (drop i xs) k d) = after k d a b in omega arith))) in
        sym
        (ap (filter (λ x. number x == n)) (sym (take-append-drop i xs)) ∙
        (filter-append (λ x. number x == n) (take i xs) (drop i xs) ∙
        (ap (λ l. l ++ filter (λ x. number x == n) (drop i xs)) none ∙
        (ap (filter (λ x. number x == n)) (sym (take-append-drop j (drop i xs))) ∙
        (filter-append (λ x. number x == n) (take j (drop i xs)) (drop j (drop i xs)) ∙
        (ap (λ l. filter (λ x. number x == n) (take j (drop i xs)) ++ l) over ∙ (append-nil (filter (λ x. number x == n) (take j (drop i xs))) ∙ all)))))))
      where
        later : (k : ℕ) (d : A) → k < length (drop i xs) → n ≤ number (get_or (drop i xs) k d)
        later k d below = rw (get_or-drop i xs k d) (from (i + k) d (omega arith) (omega (arith, length-drop i xs)))

-- ---- counts in order

-- a count at a place is the first from n on
pub first_at : (ks : List ℕ) (n i : ℕ) → IsNonDecreasing ks → i < length ks → AllWithin (λ k. k < n) ks 0 i → (f : ℕ) →
    All (λ k. n ≤ k → get_or ks i f ≤ k) ks
first_at ks n i rising within before f k d below from =
    elim (cases_lt k i) [
      | inl less ↦ let l : get_or ks k d < n = before k d (omega arith) less in absurd (omega arith)
      | inr more ↦ rw (get_or_default ks i f d within) (rising i k d more below)
    ]

-- no count is later than the last
pub all_by_last : (ks : List ℕ) (n f : ℕ) → IsNonDecreasing ks → 0 < length ks → get_or ks (length ks - 1) f ≤ n → All (λ k. k ≤ n) ks
all_by_last ks n f rising some last k d below =
    let same : get_or ks (length ks - 1) f ≡ get_or ks (length ks - 1) d = get_or_default ks (length ks - 1) f d (omega arith) in
    le_trans (rising k (length ks - 1) d (omega arith) (omega arith)) (subst (λ e. e ≤ n) same last)

-- ---- counts beside inputs

pub zip_push : {A B : Type 0} (ks : List A) (vs : List B) (k : A) (v : B) → length vs ≡ length ks →
    zip (ks ++ k ∷ []) (vs ++ v ∷ []) ≡ zip ks vs ++ (k, v) ∷ []
zip_push [] [] k v same = refl
zip_push [] (w ∷ vs) k v same = absurd (omega arith)
zip_push (l ∷ ks) [] k v same = absurd (omega arith)
zip_push (l ∷ ks) (w ∷ vs) k v same = ap (λ r. (l, w) ∷ r) (zip_push ks vs k v (omega arith))

module _ (ks : List ℕ) (vs : List Input) (same : length vs ≡ length ks) where
  pub length_zip : length (zip ks vs) ≡ length ks
  length_zip = sym (length-map (zip ks vs) (λ (p : ℕ × Input). p.0)) ∙ ap length (firsts-zip ks vs same)

  -- what holds of the counts holds of the row, and the other way round
  pub within_zip : (P : ℕ → Type 0) (low high : ℕ) → high ≤ length ks → AllWithin P ks low high → AllWithin (λ (x : ℕ × Input). P x.0) (zip ks vs) low high
  within_zip P low high le all k d a b = rw (get_or-zip ks vs k d (omega arith) (omega arith)) (all k d.0 a b)

  within_drop_zip : (P : ℕ → Type 0) (i low high : ℕ) → high ≤ length (drop i ks) → AllWithin P (drop i ks) low high →
      AllWithin (λ (x : ℕ × Input). P x.0) (drop i (zip ks vs)) low high
  within_drop_zip P i low high le all k d a b =
      let l : i + k < length ks = omega (arith, length-drop i ks) in
      rw (get_or-drop i (zip ks vs) k d, get_or-zip ks vs (i + k) d l (omega arith)) (rw (get_or-drop i ks k d.0) at (all k d.0 a b))

  pub all_zip : (P : ℕ → Type 0) → All P ks → All (λ (x : ℕ × Input). P x.0) (zip ks vs)
  all_zip P all k d below =
      let l : k < length ks = omega (arith, length_zip) in
      rw (get_or-zip ks vs k d l (omega arith)) (all k d.0 l)

  pub all_firsts : (P : ℕ → Type 0) → All (λ (x : ℕ × Input). P x.0) (zip ks vs) → All P ks
  all_firsts P all k d below =
      let a = all k (d, Timer) (omega (arith, length_zip)) in
      rw (get_or-zip ks vs k (d, Timer) below (omega arith)) at a

  -- a count that stands in the row
  pub any_zip : (n i f : ℕ) → i < length ks → get_or ks i f ≡ n → Any (λ (x : ℕ × Input). x.0 ≡ n) (zip ks vs)
  any_zip n i f below is = (
    i,
    (n, get_or vs i Timer),
    (omega (arith, length_zip)),
    get_or-zip ks vs i (n, get_or vs i Timer) below (omega arith) ∙
        (ap (λ k. (k, get_or vs i (get_or vs i Timer))) (get_or_default ks i n f below ∙ is) ∙
        ap (λ v. (n, v)) (get_or_default vs i (get_or vs i Timer) Timer (omega arith))),
    refl,
  )

  -- the inputs of a count
  pub inputs_are : (n i j : ℕ) → i ≤ length ks → j ≤ length (drop i ks) →
      AllWithin (λ k. k < n) ks 0 i → AllWithin (λ k. n ≤ k) ks i (length ks) →
      AllWithin (λ k. k ≤ n) (drop i ks) 0 j → AllWithin (λ k. n < k) (drop i ks) j (length (drop i ks)) →
      take j (drop i vs) ≡ inputs_at (zip ks vs) n
  inputs_are n i j within_i within_j before from upto after =
      let size : length (drop i (zip ks vs)) ≡ length (drop i ks) = length-drop i (zip ks vs) ∙ (ap (λ l. l - i) length_zip ∙ sym (length-drop i ks)) in
      let rest : AllWithin (λ (x : ℕ × Input). n ≤ x.0) (zip ks vs) i (length (zip ks vs)) =
      subst (λ l. AllWithin (λ (x : ℕ × Input). n ≤ x.0) (zip ks vs) i l) (sym length_zip) (within_zip (λ k. n ≤ k) i (length ks) (le_refl (length ks)) from) in
      let over : AllWithin (λ (x : ℕ × Input). n < x.0) (drop i (zip ks vs)) j (length (drop i (zip ks vs))) =
      subst (λ l. AllWithin (λ (x : ℕ × Input). n < x.0) (drop i (zip ks vs)) j l) (sym size)
      (within_drop_zip (λ k. n < k) i j (length (drop i ks)) (le_refl (length (drop i ks))) after) in
      ap (λ l. take j (drop i l)) (sym (seconds-zip ks vs same)) ∙
      (ap (take j) (drop-map (λ (x : ℕ × Input). x.1) i (zip ks vs)) ∙
      (take-map (λ (x : ℕ × Input). x.1) j (drop i (zip ks vs)) ∙
      ap (map (λ (x : ℕ × Input). x.1))
      (elements_at (λ (x : ℕ × Input). x.0) (zip ks vs) n i j (omega (arith, length_zip)) (omega (arith, size))
      (within_zip (λ k. k < n) 0 i within_i before) rest (within_drop_zip (λ k. k ≤ n) i 0 j within_j upto) over)))

-- ---- one input more

few_push : (row : List (ℕ × Input)) (k : ℕ) (v : Input) → MayFollow row k → ((n : ℕ) → length (inputs_at row n) ≤ INPUT_LIMIT) →
    (n : ℕ) → length (inputs_at (row ++ (k, v) ∷ []) n) ≤ INPUT_LIMIT
few_push row k v may few n =
    rw (at_append row ((k, v) ∷ []) n)
    (elim (cases_eq k n) [
      | inl same ↦
          let room : length (inputs_at row n) < INPUT_LIMIT = subst (λ m. length (inputs_at row m) < INPUT_LIMIT) same may.room in
          rw (eq-eqb k n same) (omega (arith, length_push (inputs_at row n) v))
      | inr ne ↦ rw (ne_eqb k n ne, append-nil (inputs_at row n)) (few n)
    ])

pub row_push : (ks : List ℕ) (vs : List Input) (k : ℕ) (v : Input) → IsRow ks vs → MayFollow (zip ks vs) k → IsRow (ks ++ k ∷ []) (vs ++ v ∷ [])
row_push ks vs k v row may =
    record {
      paired = length_push vs v ∙ (ap (λ n. n + 1) row.paired ∙ sym (length_push ks k));
      rising =
          IsNonDecreasingBy-push (λ x. x) ks k row.rising
          (λ d some. all_firsts ks vs row.paired (λ m. m ≤ k) may.last (length ks - 1) d (omega arith));
      few = λ n. rw (zip_push ks vs k v row.paired) (few_push (zip ks vs) k v may row.few n);
    }

-- ---- many inputs more, at one count

zip_same : {A B : Type 0} (k : A) (more : List B) → zip (replicate (length more) k) more ≡ map (λ v. (k, v)) more
zip_same k [] = refl
zip_same k (v ∷ more) = ap (λ r. (k, v) ∷ r) (zip_same k more)

pub zip_push_all : {A B : Type 0} (ks : List A) (vs : List B) (k : A) (more : List B) → length vs ≡ length ks →
    zip (ks ++ replicate (length more) k) (vs ++ more) ≡ zip ks vs ++ map (λ v. (k, v)) more
zip_push_all [] [] k more same = zip_same k more
zip_push_all [] (w ∷ vs) k more same = absurd (omega arith)
zip_push_all (l ∷ ks) [] k more same = absurd (omega arith)
zip_push_all (l ∷ ks) (w ∷ vs) k more same = ap (λ r. (l, w) ∷ r) (zip_push_all ks vs k more (omega arith))

-- the row with one of them may be followed by the rest
last_push : (row : List (ℕ × Input)) (k : ℕ) (v : Input) → All (λ x. x.0 ≤ k) row → All (λ x. x.0 ≤ k) (row ++ (k, v) ∷ [])
last_push row k v last = All-push (λ (x : ℕ × Input). x.0 ≤ k) row (k, v) last (le_refl k)

room_push : (row : List (ℕ × Input)) (k : ℕ) (v : Input) → length (inputs_at (row ++ (k, v) ∷ []) k) ≡ length (inputs_at row k) + 1
room_push row k v =
    ap length (at_append row ((k, v) ∷ []) k ∙ ap (λ l. inputs_at row k ++ l) (at_same k (v ∷ []))) ∙ length_push (inputs_at row k) v

pub row_push_all : (ks : List ℕ) (vs : List Input) (k : ℕ) (more : List Input) → IsRow ks vs → All (λ x. x.0 ≤ k) (zip ks vs) →
    length (inputs_at (zip ks vs) k) + length more ≤ INPUT_LIMIT → IsRow (ks ++ replicate (length more) k) (vs ++ more)
row_push_all ks vs k [] row last room = rw (append-nil ks, append-nil vs) row
row_push_all ks vs k (v ∷ more) row last room =
    let may : MayFollow (zip ks vs) k = record { last = last; room = omega arith } in
    let pushed : zip (ks ++ k ∷ []) (vs ++ v ∷ []) ≡ zip ks vs ++ (k, v) ∷ [] = zip_push ks vs k v row.paired in
    let after : All (λ (x : ℕ × Input). x.0 ≤ k) (zip (ks ++ k ∷ []) (vs ++ v ∷ [])) = rw pushed (last_push (zip ks vs) k v last) in
    let size : length (inputs_at (zip (ks ++ k ∷ []) (vs ++ v ∷ [])) k) ≡ length (inputs_at (zip ks vs) k) + 1 = rw pushed (room_push (zip ks vs) k v) in
    let rest : IsRow ((ks ++ k ∷ []) ++ replicate (length more) k) ((vs ++ v ∷ []) ++ more) =
    row_push_all (ks ++ k ∷ []) (vs ++ v ∷ []) k more (row_push ks vs k v row may) after (omega arith) in
    rw (append_assoc ks (k ∷ []) (replicate (length more) k), append_assoc vs (v ∷ []) more) at rest

-- ---- fewer inputs

pub zip_take : {A B : Type 0} (n : ℕ) (ks : List A) (vs : List B) → length vs ≡ length ks → zip (take n ks) (take n vs) ≡ take n (zip ks vs)
zip_take zero ks vs same = refl
zip_take (suc n) [] [] same = refl
zip_take (suc n) [] (w ∷ vs) same = absurd (omega arith)
zip_take (suc n) (l ∷ ks) [] same = absurd (omega arith)
zip_take (suc n) (l ∷ ks) (w ∷ vs) same = ap (λ r. (l, w) ∷ r) (zip_take n ks vs (omega arith))

fewer_at : (n : ℕ) (row : List (ℕ × Input)) (m : ℕ) → length (inputs_at (take n row) m) ≤ length (inputs_at row m)
fewer_at n row m =
    let whole : inputs_at row m ≡ inputs_at (take n row) m ++ inputs_at (drop n row) m =
    ap (λ r. inputs_at r m) (sym (take-append-drop n row)) ∙ at_append (take n row) (drop n row) m in
    rw whole (omega (arith, length-append (inputs_at (take n row) m) (inputs_at (drop n row) m)))

pub row_take : (n : ℕ) (ks : List ℕ) (vs : List Input) → IsRow ks vs → IsRow (take n ks) (take n vs)
row_take n ks vs row =
    record {
      paired = let same : length vs ≡ length ks = row.paired in omega (arith, length-take n vs, length-take n ks);
      rising = IsNonDecreasingBy-take (λ x. x) n ks row.rising;
      few = λ m. rw (zip_take n ks vs row.paired) (le_trans (fewer_at n (zip ks vs) m) (row.few m));
    }
