-- Lists that are gone through from their front.
use Rattle.std.proofs.Common.{◌≡◌, ℕ, zero, suc, ◌+◌, ◌<◌, ◌≤◌, List, [], ◌∷◌, ◌++◌, length, take, drop, slice_get, slice_set, slice_index_or, Some, refl, ap, sym, ◌∙◌, arith}

-- one more of the first elements
pub take_more : {A : Type 0} (xs : List A) (i : ℕ) (x : A) → slice_get xs i ≡ Some x → take (i + 1) xs ≡ take i xs ++ x ∷ []
take_more [] i x is = cc
take_more (y ∷ ys) zero x is = cc
take_more (y ∷ ys) (suc i) x is = ap (λ n. take n (y ∷ ys)) (let same : suc i + 1 ≡ suc (i + 1) = omega arith in same) ∙ ap (λ l. y ∷ l) (take_more ys i x is)

-- one list's first elements in place of another's, and one more
pub one_more_in_place : {A : Type 0} (xs ys : List A) (i : ℕ) (y : A) → slice_get ys i ≡ Some y → i < length xs →
    slice_set (take i ys ++ drop i xs) i y ≡ take (i + 1) ys ++ drop (i + 1) xs
one_more_in_place xs [] i y is lt = cc
one_more_in_place [] (z ∷ ys) i y is lt = absurd (omega arith)
one_more_in_place (x ∷ xs) (z ∷ ys) zero y is lt = cc
one_more_in_place (x ∷ xs) (z ∷ ys) (suc i) y is lt =
    let same : suc (i + 1) ≡ suc i + 1 = omega arith in
    ap (λ l. z ∷ l) (one_more_in_place xs ys i y is (omega arith)) ∙ ap (λ n. take n (z ∷ ys) ++ drop n (x ∷ xs)) same

-- what was read at a place of a list
pub get_at : {A : Type 0} (xs : List A) (i : ℕ) (x : A) → x ≡ slice_index_or xs i x → i < length xs → slice_get xs i ≡ Some x
get_at [] i x is lt = absurd (omega arith)
get_at (y ∷ ys) zero x is lt = ap Some (sym is)
get_at (y ∷ ys) (suc i) x is lt = get_at ys i x is (omega arith)

pub take_whole : {A : Type 0} (xs : List A) (n : ℕ) → length xs ≤ n → take n xs ≡ xs
take_whole [] zero le = refl
take_whole [] (suc n) le = refl
take_whole (x ∷ xs) zero le = absurd (omega arith)
take_whole (x ∷ xs) (suc n) le = ap (λ l. x ∷ l) (take_whole xs n (omega arith))
