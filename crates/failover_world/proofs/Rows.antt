-- Lists that are written place by place.
use Rattle.std.proofs.Common.{◌≡◌, ◌≢◌, ℕ, zero, suc, ◌+◌, ◌<◌, ◌≤◌, List, [], ◌∷◌, ◌++◌, length, replicate, take, slice_get, slice_set, get_or, Option, None, Some, append_assoc, append-nil, refl, sym, ap, ◌∙◌, arith}
use Rattle.std.proofs.lemmas.Option.{slice_get-get_or}
use Rattle.std.specs.List.{enumerate_from, flat_map}

pub set_next : {A : Type 0} (xs : List A) (n : ℕ) (x : A) → n < length xs → take n xs ≡ replicate n x → take (suc n) (slice_set xs n x) ≡ replicate (suc n) x
set_next [] n x lt is = absurd (omega (arith, lt))
set_next (y ∷ xs) zero x lt is = refl
set_next (y ∷ xs) (suc n) x lt is =
    let head : y ≡ x = cc in
    let tail : take n xs ≡ replicate n x = cc in
    ap (λ z. z ∷ take (suc n) (slice_set xs n x)) head ∙ ap (λ zs. x ∷ zs) (set_next xs n x (omega (arith, lt)) tail)

-- whoever is below the end of a list is there
pub some_at : {A : Type 0} (xs : List A) (i : ℕ) → i < length xs → (x : A) × (slice_get xs i ≡ Some x)
some_at [] i lt = absurd (omega (arith, lt))
some_at (x ∷ xs) zero lt = (x, refl)
some_at (x ∷ xs) (suc i) lt = some_at xs i (omega (arith, lt))

-- a copy of what is read at a place
pub copied : {A : Type 0} (xs : List A) (i : ℕ) (x y : A) → i < length xs → x ≡ get_or xs i x → y ≡ x → slice_get xs i ≡ Some y
copied xs i x y lt read copy = slice_get-get_or xs i x lt ∙ ap Some (sym read ∙ sym copy)

-- a row that is put back whole is as it is
pub put_back_whole : {A : Type 0} (xs ys : List A) (n : ℕ) → length xs ≡ n → take n (xs ++ ys) ≡ xs
put_back_whole [] ys n is = ap (λ k. take k ys) (sym is)
put_back_whole (x ∷ xs) ys zero is = absurd (omega (arith, is))
put_back_whole (x ∷ xs) ys (suc n) is = ap (λ zs. x ∷ zs) (put_back_whole xs ys n (omega (arith, is)))

pub take_length : {A : Type 0} (xs : List A) (n : ℕ) → n ≤ length xs → length (take n xs) ≡ n
take_length [] zero le = refl
take_length [] (suc n) le = absurd (omega (arith, le))
take_length (x ∷ xs) zero le = refl
take_length (x ∷ xs) (suc n) le = ap suc (take_length xs n (omega (arith, le)))

pub set_set : {A : Type 0} (xs : List A) (i : ℕ) (x y : A) → slice_set (slice_set xs i x) i y ≡ slice_set xs i y
set_set [] i x y = refl
set_set (z ∷ xs) zero x y = refl
set_set (z ∷ xs) (suc i) x y = ap (λ zs. z ∷ zs) (set_set xs i x y)

pub set_own : {A : Type 0} (xs : List (Option A)) (i : ℕ) (x : Option A) → get_or xs i None ≡ x → slice_set xs i x ≡ xs
set_own [] i x is = refl
set_own (z ∷ xs) zero x is = ap (λ y. y ∷ xs) (sym is)
set_own (z ∷ xs) (suc i) x is = ap (λ zs. z ∷ zs) (set_own xs i x is)

pub set_elsewhere : {A : Type 0} (xs : List A) (i j : ℕ) (x d : A) → i ≢ j → get_or (slice_set xs i x) j d ≡ get_or xs j d
set_elsewhere [] i j x d ne = refl
set_elsewhere (z ∷ xs) zero zero x d ne = absurd (ne refl)
set_elsewhere (z ∷ xs) zero (suc j) x d ne = refl
set_elsewhere (z ∷ xs) (suc i) zero x d ne = refl
set_elsewhere (z ∷ xs) (suc i) (suc j) x d ne = set_elsewhere xs i j x d (λ e. ne (ap suc e))

-- what else would be there doesn't matter
pub whatever : {A : Type 0} (xs : List A) (i : ℕ) (d e : A) → i < length xs → get_or xs i d ≡ get_or xs i e
whatever [] i d e lt = absurd (omega (arith, lt))
whatever (x ∷ xs) zero d e lt = refl
whatever (x ∷ xs) (suc i) d e lt = whatever xs i d e (omega (arith, lt))

pub enumerate_more : {A : Type 0} (n : ℕ) (xs : List A) (x : A) → enumerate_from n (xs ++ x ∷ []) ≡ enumerate_from n xs ++ (n + length xs, x) ∷ []
enumerate_more n [] x = ap (λ k. (k, x) ∷ []) (omega arith)
enumerate_more n (y ∷ xs) x =
    ap (λ zs. (n, y) ∷ zs) (enumerate_more (n + 1) xs x ∙ ap (λ k. enumerate_from (n + 1) xs ++ (k, x) ∷ []) (omega arith))

pub flat_more : {A B : Type 0} (f : A → List B) (xs : List A) (x : A) → flat_map f (xs ++ x ∷ []) ≡ flat_map f xs ++ f x
flat_more f [] x = append-nil (f x)
flat_more f (y ∷ xs) x = ap (λ zs. f y ++ zs) (flat_more f xs x) ∙ sym (append_assoc (f y) (flat_map f xs) (f x))
