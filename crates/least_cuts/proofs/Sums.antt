-- Sums of the counts of the first harts.
use Rattle.std.proofs.Common.{◌≡◌, inl, inr, ℕ, zero, suc, ◌+◌, ◌<◌, ◌≤◌, List, [], ◌∷◌, length, sum, refl, ap, sym, ◌∙◌, arith}
use Rattle.std.proofs.lemmas.List.Sums.{sum_by-cons}
use Rattle.ft_types.specs.Counts.{count_at}
use Rattle.interleaving.specs.Log.{bump}
use Rattle.interleaving.proofs.Put.{same_or_not, bump_same, bump_other}

-- the sum of the first values of f
abbrev pub upto : (ℕ → ℕ) → ℕ → ℕ
upto f zero = 0
upto f (suc n) = upto f n + f n

pub upto_same : (f g : ℕ → ℕ) (n : ℕ) → ((j : ℕ) → j < n → f j ≡ g j) → upto f n ≡ upto g n
upto_same f g zero same = refl
upto_same f g (suc n) same =
    let before = upto_same f g n (λ j lt. same j (omega (arith, lt))) in
    let last = same n (omega arith) in
    omega (arith, before, last)

pub upto_within : (f g : ℕ → ℕ) (n : ℕ) → ((j : ℕ) → f j ≤ g j) → upto f n ≤ upto g n
upto_within f g zero le = omega arith
upto_within f g (suc n) le =
    let before = upto_within f g n le in
    let last = le n in
    omega (arith, before, last)

pub upto_less : (f g : ℕ → ℕ) (n i : ℕ) → ((j : ℕ) → f j ≤ g j) → i < n → f i < g i → upto f n < upto g n
upto_less f g zero i le there lt = absurd (omega (arith, there))
upto_less f g (suc n) i le there lt =
    elim (same_or_not i n) [
      | inl same ↦
          let before = upto_within f g n le in
          let left : f i ≡ f n = ap f same in
          let right : g i ≡ g n = ap g same in
          omega (arith, before, left, right, lt)
      | inr other ↦
          let before = upto_less f g n i le (omega (arith, there, other)) lt in
          let last = le n in
          omega (arith, before, last)
    ]

pub upto_bump : (f : ℕ → ℕ) (n i : ℕ) → i < n → upto (bump f i) n ≡ upto f n + 1
upto_bump f zero i there = absurd (omega (arith, there))
upto_bump f (suc n) i there =
    elim (same_or_not i n) [
      | inl same ↦
          let before : upto (bump f i) n ≡ upto f n =
          upto_same (bump f i) f n (λ j lt. bump_other f i j (λ is. omega (arith, lt, is, same))) in
          let one : bump f i i ≡ f i + 1 = bump_same f i in
          let last : bump f i i ≡ bump f i n = ap (bump f i) same in
          let here : f i ≡ f n = ap f same in
          omega (arith, before, one, last, here)
      | inr other ↦
          let before = upto_bump f n i (omega (arith, there, other)) in
          let last : bump f i n ≡ f n = bump_other f i n other in
          omega (arith, before, last)
    ]

pub upto_zero : (f : ℕ → ℕ) (n : ℕ) → ((j : ℕ) → f j ≡ 0) → upto f n ≡ 0
upto_zero f zero none = refl
upto_zero f (suc n) none =
    let before = upto_zero f n none in
    let last = none n in
    omega (arith, before, last)

-- the first value apart
upto_first : (f : ℕ → ℕ) (n : ℕ) → upto f (suc n) ≡ f 0 + upto (λ j. f (suc j)) n
upto_first f zero = omega arith
upto_first f (suc n) = let before = upto_first f n in omega (arith, before)

pub sum_more : (x : ℕ) (xs : List ℕ) → sum (x ∷ xs) ≡ x + sum xs
sum_more x xs = sum_by-cons (λ (y : ℕ). y) x xs

pub upto_sum : (xs : List ℕ) (n : ℕ) → length xs ≤ n → upto (count_at xs) n ≡ sum xs
upto_sum [] n le = upto_zero (count_at []) n (λ j. refl)
upto_sum (x ∷ xs) zero le = absurd (omega (arith, le))
upto_sum (x ∷ xs) (suc n) le =
    upto_first (count_at (x ∷ xs)) n ∙ ap (λ (k : ℕ). x + k) (upto_sum xs n (omega (arith, le))) ∙ sym (sum_more x xs)

-- values of 0 behind the first add nothing
pub upto_more : (f : ℕ → ℕ) (n k : ℕ) → ((j : ℕ) → n ≤ j → f j ≡ 0) → upto f (k + n) ≡ upto f n
upto_more f n zero none = let is : zero + n ≡ n = omega arith in ap (upto f) is
upto_more f n (suc k) none =
    let before = upto_more f n k none in
    let last = none (k + n) (omega arith) in
    let next : suc k + n ≡ suc (k + n) = omega arith in
    let is : upto f (suc k + n) ≡ upto f (suc (k + n)) = ap (upto f) next in
    let more : upto f (suc (k + n)) ≡ upto f (k + n) + f (k + n) = refl in
    omega (arith, before, last, is, more)
