-- Lists and functions that are changed at one place.
use Rattle.std.proofs.Common.{◌≡◌, ℕ, zero, suc, ◌<◌, ◌==◌, Bool, true, false, List, [], ◌∷◌, length, slice_set, get_or, if◌then◌else◌, Option, Some, None, inl, inr, eq-eqb, ne_eqb, refl, sym, ap, ◌∙◌, arith}
use Rattle.std.proofs.Math.Path.{fun_ext}
use Rattle.ft_types.specs.Counts.{count_at}
use Rattle.interleaving.specs.Lists.{put}
use Rattle.interleaving.proofs.Put.{same_or_not}
use Rattle.log_join.specs.Families.{Past, Family}
use Rattle.failover_world.specs.machinery.Tied.{retold_in}

of_if : {A B : Type 0} (f : A → B) (b : Bool) (x y : A) → f (if b then x else y) ≡ (if b then f x else f y)
of_if f true x y = refl
of_if f false x y = refl

-- what is told of a family in which one term was put
pub retold_put : {A B : Type 0} (f : A → B) (terms : Family A) (n : ℕ) (p : Option (Past A)) →
    (λ u. retold_in f (put terms n p u)) ≡ put (λ u. retold_in f (terms u)) n (retold_in f p)
retold_put f terms n p = fun_ext (λ u. of_if (retold_in f) (n == u) p (terms u))

next_same : (k j : ℕ) → (k == j) ≡ (suc k == suc j)
next_same k j = elim (same_or_not k j) [
  | inl same ↦ eq-eqb k j same ∙ sym (eq-eqb (suc k) (suc j) (ap suc same))
  | inr other ↦ ne_eqb k j other ∙ sym (ne_eqb (suc k) (suc j) (λ e. other (omega (arith, e))))
]

at_place : {A : Type 0} (xs : List A) (k j : ℕ) (x d : A) → k < length xs → get_or (slice_set xs k x) j d ≡ (if k == j then x else get_or xs j d)
at_place [] k j x d lt = absurd (omega (arith, lt))
at_place (y ∷ xs) zero zero x d lt = refl
at_place (y ∷ xs) zero (suc j) x d lt = sym (ap (λ b. if b then x else get_or xs j d) (ne_eqb 0 (suc j) (λ e. absurd (omega (arith, e)))))
at_place (y ∷ xs) (suc k) zero x d lt = sym (ap (λ b. if b then x else y) (ne_eqb (suc k) 0 (λ e. absurd (omega (arith, e)))))
at_place (y ∷ xs) (suc k) (suc j) x d lt = at_place xs k j x d (omega (arith, lt)) ∙ ap (λ b. if b then x else get_or xs j d) (next_same k j)

-- a row that is changed at one place
pub row_put : {A : Type 0} (xs : List A) (k : ℕ) (x d : A) → k < length xs → (λ j. get_or (slice_set xs k x) j d) ≡ put (λ j. get_or xs j d) k x
row_put xs k x d lt = fun_ext (λ j. at_place xs k j x d lt)

-- what is there is there whatever else would be
pub there_too : {A : Type 0} (xs : List (Option A)) (k : ℕ) (x : A) (d : Option A) → get_or xs k None ≡ Some x → get_or xs k d ≡ Some x
there_too [] k x d is = absurd cc
there_too (y ∷ xs) zero x d is = is
there_too (y ∷ xs) (suc k) x d is = there_too xs k x d is

pub is_below : {A : Type 0} (xs : List (Option A)) (k : ℕ) (x : A) → get_or xs k None ≡ Some x → k < length xs
is_below [] k x is = absurd cc
is_below (y ∷ xs) zero x is = omega arith
is_below (y ∷ xs) (suc k) x is = let rest = is_below xs k x is in omega (arith, rest)

at_counts : (xs : List (List ℕ)) (k j : ℕ) (x : List ℕ) → k < length xs →
    count_at (get_or (slice_set xs k x) j []) ≡ (if k == j then count_at x else count_at (get_or xs j []))
at_counts xs k j x lt = ap count_at (at_place xs k j x [] lt) ∙ of_if count_at (k == j) x (get_or xs j [])

-- counts by keeper, where one keeper's are others
pub acked_put : (xs : List (List ℕ)) (k : ℕ) (x : List ℕ) → k < length xs →
    (λ j hart. count_at (get_or (slice_set xs k x) j []) hart) ≡ put (λ j hart. count_at (get_or xs j []) hart) k (count_at x)
acked_put xs k x lt = fun_ext (λ j. at_counts xs k j x lt)
