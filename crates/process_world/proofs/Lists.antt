-- Lists that change at one place, or grow by one.
use Rattle.std.proofs.Common.{◌≡◌, ◌⊎◌, inl, inr, ℕ, zero, suc, List, [], ◌∷◌, ◌++◌, length, slice_set, slice_get, slice_index_or, Contains, Some, refl, ap}
use Rattle.std.proofs.Common.{subst, arith}
use Rattle.interleaving.proofs.Cuts.{here_or_later}
use Rattle.fenced_theory.proofs.Growing.{some_same, some_none}

-- nothing is in no list
pub none_in : {A G : Type 0} (xs : List A) (x : A) → xs ≡ [] → Contains xs x → G
none_in xs x empty has = let (k, below, is) = subst (λ xs. Contains xs x) empty has in absurd (omega (arith, below))

-- one is the only one of its list
pub only_one : {A : Type 0} (x y : A) → Contains (x ∷ []) y → x ≡ y
only_one x y has = elim (here_or_later x [] y has) [ inl same ↦ same | inr later ↦ none_in [] y refl later ]

-- nothing stands in no list
pub none_at : {A G : Type 0} (xs : List A) (n : ℕ) (x : A) → xs ≡ [] → slice_get xs n ≡ Some x → G
none_at xs n x empty at = some_none at (ap (λ xs. slice_get xs n) empty)

-- the changed one, or one that stays
pub set_cases : {A : Type 0} (xs : List A) (n m : ℕ) (y z : A) → slice_get (slice_set xs n y) m ≡ Some z →
    ((n ≡ m) × (y ≡ z)) ⊎ ((n ≡ m → ⊥) × (slice_get xs m ≡ Some z))
set_cases [] n m y z is = absurd cc
set_cases (x ∷ xs) zero zero y z is = inl (refl, some_same refl is)
set_cases (x ∷ xs) zero (suc m) y z is = inr ((λ e. absurd (omega (arith, e))), is)
set_cases (x ∷ xs) (suc n) zero y z is = inr ((λ e. absurd (omega (arith, e))), is)
set_cases (x ∷ xs) (suc n) (suc m) y z is =
    elim (set_cases xs n m y z is) [
      | inl (same, own) ↦ inl (ap suc same, own)
      | inr (other, there) ↦ inr ((λ e. other (omega (arith, e))), there)
    ]

-- so it is where what is not there counts as another
pub set_either : {A : Type 0} (xs : List A) (n m : ℕ) (x d : A) →
    ((n ≡ m) × (slice_index_or (slice_set xs n x) m d ≡ x)) ⊎ (slice_index_or (slice_set xs n x) m d ≡ slice_index_or xs m d)
set_either [] n m x d = inr refl
set_either (y ∷ xs) zero zero x d = inl (refl, refl)
set_either (y ∷ xs) zero (suc m) x d = inr refl
set_either (y ∷ xs) (suc n) zero x d = inr refl
set_either (y ∷ xs) (suc n) (suc m) x d = elim (set_either xs n m x d) [ inl (same, own) ↦ inl (ap suc same, own) | inr old ↦ inr old ]

-- the last stands behind all others
pub push_last : {A : Type 0} (xs : List A) (x : A) → slice_get (xs ++ x ∷ []) (length xs) ≡ Some x
push_last [] x = refl
push_last (z ∷ xs) x = push_last xs x

-- an old one, or the last
pub push_cases : {A : Type 0} (xs : List A) (x : A) (n : ℕ) (y : A) → slice_get (xs ++ x ∷ []) n ≡ Some y →
    (slice_get xs n ≡ Some y) ⊎ ((n ≡ length xs) × (x ≡ y))
push_cases [] x zero y is = inr (refl, some_same refl is)
push_cases [] x (suc n) y is = absurd cc
push_cases (z ∷ xs) x zero y is = inl is
push_cases (z ∷ xs) x (suc n) y is =
    elim (push_cases xs x n y is) [ inl old ↦ inl old | inr (last, same) ↦ inr (ap suc last, same) ]
