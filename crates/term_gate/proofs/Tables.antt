-- Tables of counts: what stands behind their ends, and where one row is above another.
use Rattle.std.proofs.Common.{◌≡◌, ℕ, zero, suc, ◌<◌, ◌≤◌, List, [], ◌∷◌, length, get_or, ap, arith, le_refl}
use Rattle.std.proofs.lemmas.List.{get_or_past}
use mathlib.Core.Logic.{dite}
use native.Mathlib.Decide.{dec_lt}
use Rattle.ft_types.specs.Counts.{count_at, IsWithin}

-- behind the last row there is no count
pub no_row : (rows : List (List ℕ)) (keeper hart : ℕ) → length rows ≤ keeper → count_at (get_or rows keeper []) hart ≡ 0
no_row rows keeper hart past = ap (λ (row : List ℕ). count_at row hart) (get_or_past rows keeper [] past)

-- nor is there behind the end of a row
pub no_count : (rows : List (List ℕ)) (harts keeper hart : ℕ) → ((k : ℕ) → k < length rows → length (get_or rows k []) ≡ harts) → harts ≤ hart →
    count_at (get_or rows keeper []) hart ≡ 0
no_count rows harts keeper hart wide past = dite (dec_lt keeper (length rows))
    (λ (there : keeper < length rows). get_or_past (get_or rows keeper []) hart 0 (omega (arith, wide keeper there)))
    (λ (none : keeper < length rows → ⊥). no_row rows keeper hart (omega arith))

within_more : (x y : ℕ) (xs ys : List ℕ) → x ≤ y → IsWithin xs ys → IsWithin (x ∷ xs) (y ∷ ys)
within_more x y xs ys le within zero = le
within_more x y xs ys le within (suc h) = within h

-- a row that is not within another one is above it at some hart
pub above_somewhere : (xs ys : List ℕ) → length xs ≡ length ys → (IsWithin xs ys → ⊥) → (h : ℕ) × (h < length xs) × (count_at ys h < count_at xs h)
above_somewhere [] [] same fails = absurd (fails (λ h. le_refl 0))
above_somewhere [] (y ∷ ys) same fails = absurd (omega (arith, same))
above_somewhere (x ∷ xs) [] same fails = absurd (omega (arith, same))
above_somewhere (x ∷ xs) (y ∷ ys) same fails = dite (dec_lt y x)
    (λ (lt : y < x). (0, omega arith, lt))
    (λ (ge : y < x → ⊥).
    let rest = above_somewhere xs ys (omega (arith, same)) (λ within. fails (within_more x y xs ys (omega arith) within)) in
    (suc rest.0, omega (arith, rest.1), rest.2))
