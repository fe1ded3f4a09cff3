-- Rows below an end: their first elements.
use Rattle.std.proofs.Common.{◌≡◌, ◌↔◌, ◌<◌, ◌≤◌, ◌+◌, ◌++◌, ℕ, zero, suc, List, [], ◌∷◌, length, take, map, zip, nat_lt, refl, sym, ap, subst, ◌∙◌, arith}
use Rattle.std.proofs.Common.{get_or, le-ltb, lt-ltb, length-take, length-drop, drop, append-nil, take-append-drop, inl, inr, le_refl, All, Contains}
use Rattle.std.proofs.lemmas.Bool.{cases_lt}
use Rattle.std.proofs.lemmas.List.{get_or-drop}
use Rattle.std.proofs.lemmas.List.Elements.{All-head, All-tail, Contains-append_right, Contains-get_or, filter-append}
use Rattle.interleaving.proofs.Cuts.{here, here_or_later}
use Rattle.edge_log.specs.declared.Edge.{Edge}
use Rattle.edge_log.specs.Rows.{SayOn}
use Rattle.input_log.specs.Inputs.{HearsMore}
use Rattle.std.specs.List.{AllWithin, filter}
use Rattle.std.proofs.lemmas.Slice.Zip.{firsts-zip, seconds-zip, get_or-zip}
use Rattle.input_log.specs.declared.Input.{Input}

-- of elements of which the first are below the end and the rest are not, those below it are the first
pub first_below : {A : Type 0} (at : A → ℕ) (end : ℕ) (xs : List A) (n : ℕ) → n ≤ length xs → AllWithin (λ x. at x < end) xs 0 n →
    AllWithin (λ x. end ≤ at x) xs n (length xs) → filter (λ x. nat_lt (at x) end) xs ≡ take n xs
first_below at end [] zero le before from = refl
first_below at end [] (suc n) le before from = absurd (omega (arith, le))
first_below at end (x ∷ xs) zero le before from =
    let here : end ≤ at x = from 0 x (omega arith) (omega arith) in
    rw (le-ltb (at x) end here)
    (first_below at end xs zero (omega arith) (λ k d up less. absurd (omega (arith, less))) (λ k d up less. from (suc k) d (omega arith) (omega (arith, less))))
first_below at end (x ∷ xs) (suc n) le before from =
    let here : at x < end = before 0 x (omega arith) (omega arith) in
    rw (lt-ltb (at x) end here)
    (ap (λ l. x ∷ l)
    (first_below at end xs n (omega (arith, le)) (λ k d up less. before (suc k) d (omega arith) (omega (arith, less)))
    (λ k d up less. from (suc k) d (omega (arith, up)) (omega (arith, less)))))

length_zip : (counts : List ℕ) (inputs : List Input) → length inputs ≡ length counts → length (zip counts inputs) ≡ length counts
length_zip [] [] same = refl
length_zip [] (x ∷ inputs) same = absurd (omega (arith, same))
length_zip (n ∷ counts) [] same = absurd (omega (arith, same))
length_zip (n ∷ counts) (x ∷ inputs) same = let rest = length_zip counts inputs (omega (arith, same)) in omega (arith, rest)

zip_take : (n : ℕ) (counts : List ℕ) (inputs : List Input) → length inputs ≡ length counts → zip (take n counts) (take n inputs) ≡ take n (zip counts inputs)
zip_take zero counts inputs same = refl
zip_take (suc n) [] [] same = refl
zip_take (suc n) [] (x ∷ inputs) same = absurd (omega (arith, same))
zip_take (suc n) (k ∷ counts) [] same = absurd (omega (arith, same))
zip_take (suc n) (k ∷ counts) (x ∷ inputs) same = ap (λ l. (k, x) ∷ l) (zip_take n counts inputs (omega (arith, same)))

-- what holds of the counts holds of the row
within_zip : (counts : List ℕ) (inputs : List Input) → length inputs ≡ length counts → (P : ℕ → Type 0) (low high : ℕ) → high ≤ length counts →
    AllWithin P counts low high → AllWithin (λ x. P x.0) (zip counts inputs) low high
within_zip counts inputs same P low high le all k d a b =
    rw (get_or-zip counts inputs k d (omega (arith, b, le)) (omega (arith, b, le, same))) (all k d.0 a b)

-- inputs beside their counts
module _ (end n : ℕ) (counts : List ℕ) (inputs : List Input) (paired : length inputs ≡ length counts) (le : n ≤ length counts)
    (before : AllWithin (λ k. k < end) counts 0 n) (from : AllWithin (λ k. end ≤ k) counts n (length counts)) where
  pub inputs_below_are : filter (λ x. nat_lt x.0 end) (zip counts inputs) ≡ zip (take n counts) (take n inputs)
  inputs_below_are =
      let many = length_zip counts inputs paired in
      first_below (λ x. x.0) end (zip counts inputs) n (omega (arith, le, many)) (within_zip counts inputs paired (λ k. k < end) 0 n le before)
      (subst (λ l. AllWithin (λ x. end ≤ x.0) (zip counts inputs) n l) (sym many)
      (within_zip counts inputs paired (λ k. end ≤ k) n (length counts) (omega arith) from))
      ∙ sym (zip_take n counts inputs paired)

  pub paired_below : length (take n inputs) ≡ length (take n counts)
  paired_below = omega (arith, length-take n inputs, length-take n counts, paired)

-- paired rows are the same where their counts and their inputs are
pub same_zips : (m n : List ℕ) (a b : List Input) → length a ≡ length m → length b ≡ length n → (zip m a ≡ zip n b) ↔ ((m ≡ n) × (a ≡ b))
same_zips m n a b e f = (
  λ same. (
    sym (firsts-zip m a e) ∙ ap (λ (row : List (ℕ × Input)). map (λ (x : ℕ × Input). x.0) row) same ∙ firsts-zip n b f,
    sym (seconds-zip m a e) ∙ ap (λ (row : List (ℕ × Input)). map (λ (x : ℕ × Input). x.1) row) same ∙ seconds-zip n b f,
  ),
  λ (counts, inputs). rw (counts, inputs) refl,
)

-- ---- inputs that go on from those below an end

none_below : (end : ℕ) (row : List (ℕ × Input)) → All (λ x. end ≤ x.0) row → filter (λ x. nat_lt x.0 end) row ≡ []
none_below end [] all = refl
none_below end (x ∷ row) all =
    rw (le-ltb x.0 end (All-head (λ (y : ℕ × Input). end ≤ y.0) x row all)) (none_below end row (All-tail (λ (y : ℕ × Input). end ≤ y.0) x row all))

below_twice : {A : Type 0} (at : A → ℕ) (end : ℕ) (row : List A) → filter (λ x. nat_lt (at x) end) (filter (λ x. nat_lt (at x) end) row) ≡
    filter (λ x. nat_lt (at x) end) row
below_twice at end [] = refl
below_twice at end (x ∷ row) =
    elim (cases_lt (at x) end) [
      | inl less ↦ rw (lt-ltb (at x) end less) (rw (lt-ltb (at x) end less) (ap (λ l. x ∷ l) (below_twice at end row)))
      | inr over ↦ rw (le-ltb (at x) end over) (below_twice at end row)
    ]

-- what goes on from a row has below the end what the row has
pub below_of_more : (end : ℕ) (row later : List (ℕ × Input)) → HearsMore row end later → filter (λ x. nat_lt x.0 end) later ≡ filter (λ x. nat_lt x.0 end) row
below_of_more end row later (more, is, late) =
    ap (filter (λ x. nat_lt x.0 end)) is ∙
    (filter-append (λ x. nat_lt x.0 end) row more ∙
    (ap (λ (l : List (ℕ × Input)). filter (λ x. nat_lt x.0 end) row ++ l) (none_below end more late) ∙ append-nil (filter (λ x. nat_lt x.0 end) row)))

module _ (end j : ℕ) (row : List (ℕ × Input)) (counts : List ℕ) (inputs : List Input) (paired : length inputs ≡ length counts) (le : j ≤ length counts)
    (before : AllWithin (λ k. k < end) counts 0 j) (from : AllWithin (λ k. end ≤ k) counts j (length counts)) where
  abbrev later : List (ℕ × Input)
  later = zip counts inputs

  -- the others are below the end just where they go on from these
  pub hears_from_same : filter (λ x. nat_lt x.0 end) row ≡ filter (λ x. nat_lt x.0 end) later → HearsMore (filter (λ x. nat_lt x.0 end) row) end later
  hears_from_same same = (
    drop j later,
    sym (take-append-drop j later)
        ∙ ap (λ (l : List (ℕ × Input)). l ++ drop j later)
        (sym (zip_take j counts inputs paired) ∙ (sym (inputs_below_are end j counts inputs paired le before from) ∙ sym same)),
    λ k d less.
        let many = length_zip counts inputs paired in
        let small : j + k < length counts = omega (arith, less, many, length-drop j later) in
        let up : end ≤ get_or counts (j + k) d.0 = from (j + k) d.0 (omega arith) small in
        rw (get_or-drop j later k d, get_or-zip counts inputs (j + k) d small (omega (arith, small, paired))) up,
  )

  pub same_from_hears : HearsMore (filter (λ x. nat_lt x.0 end) row) end later → filter (λ x. nat_lt x.0 end) row ≡ filter (λ x. nat_lt x.0 end) later
  same_from_hears hears =
      sym (below_of_more end (filter (λ x. nat_lt x.0 end) row) later hears ∙ below_twice (λ (x : ℕ × Input). x.0) end row)

-- ---- edges that say on from those below an end

kept_there : (end : ℕ) (row : List Edge) (x : Edge) → Contains (filter (λ e. nat_lt e.at end) row) x → Contains row x
kept_there end [] x has = has
kept_there end (e ∷ row) x has =
    elim (cases_lt e.at end) [
      | inl less ↦
          elim (here_or_later e (filter (λ e. nat_lt e.at end) row) x (rw (lt-ltb e.at end less) at has)) [
            | inl same ↦ subst (λ (y : Edge). Contains (e ∷ row) y) same (here e row)
            | inr more ↦ Contains-append_right (e ∷ []) row x (kept_there end row x more)
          ]
      | inr over ↦ Contains-append_right (e ∷ []) row x (kept_there end row x (rw (le-ltb e.at end over) at has))
    ]

pub says_from_same : (end : ℕ) (old new : List Edge) → filter (λ e. nat_lt e.at end) old ≡ filter (λ e. nat_lt e.at end) new →
    SayOn (filter (λ e. nat_lt e.at end) old) end new
says_from_same end old new same =
    record {
      below = sym same ∙ sym (below_twice (λ (e : Edge). e.at) end old);
      said =
          λ k d less.
          let e = get_or (filter (λ e. nat_lt e.at end) old) k d in
          let has : Contains (filter (λ e. nat_lt e.at end) old) e = Contains-get_or (filter (λ e. nat_lt e.at end) old) k d less in
          let (i, under, is) = kept_there end new e (subst (λ (row : List Edge). Contains row e) same has) in
          (i, e, under, is, record { other = refl; at = le_refl e.at; after = le_refl e.after });
    }

pub same_from_says : (end : ℕ) (old new : List Edge) → SayOn (filter (λ e. nat_lt e.at end) old) end new →
    filter (λ e. nat_lt e.at end) old ≡ filter (λ e. nat_lt e.at end) new
same_from_says end old new says = sym (says.below ∙ below_twice (λ (e : Edge). e.at) end old)
