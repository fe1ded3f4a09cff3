-- How far the harts that left reach.
use Rattle.std.specs.Prelude.{ℕ, zero, suc, List, [], ◌∷◌, Option, Some, None}

-- one more than the last place with a count, or 0, where it is so for the places behind the first
unfoldable pub reach_behind : Option ℕ → ℕ → ℕ
reach_behind None zero = 0
reach_behind (Some count) zero = 1
reach_behind first (suc n) = suc (suc n)

-- one more than the last place with a count, or 0
unfoldable pub reach_of : List (Option ℕ) → ℕ
reach_of [] = 0
reach_of (first ∷ rest) = reach_behind first (reach_of rest)
