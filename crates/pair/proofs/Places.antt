-- What holds of each of a list, at its place.
use Rattle.std.proofs.Common.{◌≡◌, ◌<◌, ℕ, zero, suc, List, [], ◌∷◌, ◌++◌, Some, length, get_or, slice_get, refl, arith}

-- P of each place and what stands there
abbrev pub EachAt : {X : Type 0} → (ℕ → X → Type 0) → List X → Type 0
EachAt {X} P xs = (k : ℕ) (other : X) → k < length xs → P k (get_or xs k other)

-- of one in the middle
pub at_place : {X : Type 0} (P : ℕ → X → Type 0) (before : List X) (x : X) (behind : List X) → EachAt P (before ++ x ∷ behind) → P (length before) x
at_place P [] x behind each = each 0 x (omega arith)
at_place P (y ∷ before) x behind each = at_place (λ k. P (suc k)) before x behind (λ k other below. each (suc k) other (omega arith))

-- of one more
pub more_at : {X : Type 0} (P : ℕ → X → Type 0) (xs : List X) (x : X) → EachAt P xs → P (length xs) x → EachAt P (xs ++ x ∷ [])
more_at P [] x each own zero other below = own
more_at P [] x each own (suc k) other below = absurd (omega arith)
more_at P (y ∷ ys) x each own zero other below = each 0 other (omega arith)
more_at P (y ∷ ys) x each own (suc k) other below =
    more_at (λ k. P (suc k)) ys x (λ k other below. each (suc k) other (omega arith)) own k other (omega arith)

-- below the length something stands
pub stands_at : {X : Type 0} (xs : List X) (k : ℕ) → k < length xs → (x : X) × (slice_get xs k ≡ Some x) × (get_or xs k x ≡ x)
stands_at [] k below = absurd (omega arith)
stands_at (x ∷ xs) zero below = (x, refl, refl)
stands_at (x ∷ xs) (suc k) below = stands_at xs k (omega arith)
