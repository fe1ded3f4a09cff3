-- Behind the last hart that left none did.
use Rattle.std.proofs.Common.{◌≡◌, ℕ, zero, suc, ◌+◌, ◌<◌, ◌≤◌, max, List, [], ◌∷◌, length, Option, Some, None, replicate, get_or, set, refl, ap, ◌∙◌, arith}
use Rattle.crew_pages.specs.machinery.Reach.{reach_behind, reach_of}

behind_some : (first : Option ℕ) (n : ℕ) → 0 < n → reach_behind first n ≡ n + 1
unfolding reach_behind
behind_some first zero some = absurd (omega (arith, some))
behind_some None (suc n) some = omega arith
behind_some (Some count) (suc n) some = omega arith

behind_none : (first : Option ℕ) (n : ℕ) → reach_behind first n ≤ n + 1
unfolding reach_behind
behind_none None zero = omega arith
behind_none (Some count) zero = omega arith
behind_none None (suc n) = omega arith
behind_none (Some count) (suc n) = omega arith

first_none : (first : Option ℕ) (n : ℕ) → reach_behind first n ≤ 0 → first ≡ None
unfolding reach_behind
first_none None n low = refl
first_none (Some count) zero low = absurd (omega (arith, low))
first_none (Some count) (suc n) low = absurd (omega (arith, low))

rest_low : (first : Option ℕ) (n hart : ℕ) → reach_behind first n ≤ suc hart → n ≤ hart
rest_low first zero hart low = omega arith
rest_low first (suc n) hart low = omega (arith, low, behind_some first (suc n) (omega arith))

-- no hart from the reach on has left
pub none_beyond : (counts : List (Option ℕ)) (hart : ℕ) → reach_of counts ≤ hart → get_or counts hart None ≡ None
unfolding reach_of
none_beyond [] hart beyond = refl
none_beyond (first ∷ rest) zero beyond = first_none first (reach_of rest) beyond
none_beyond (first ∷ rest) (suc hart) beyond = none_beyond rest hart (rest_low first (reach_of rest) hart beyond)

pub reach_fits : (counts : List (Option ℕ)) → reach_of counts ≤ length counts
unfolding reach_of
reach_fits [] = omega arith
reach_fits (first ∷ rest) = omega (arith, behind_none first (reach_of rest), reach_fits rest)

pub reach_none : (n : ℕ) → reach_of (replicate n None) ≡ 0
unfolding reach_of reach_behind
reach_none zero = refl
reach_none (suc n) = rw (reach_none n) refl

-- a hart that leaves reaches as far as it
here_some : (first : Option ℕ) (n count : ℕ) → reach_behind (Some count) n ≡ max (reach_behind first n) 1
unfolding reach_behind
here_some None zero count = omega arith
here_some (Some other) zero count = omega arith
here_some None (suc n) count = omega arith
here_some (Some other) (suc n) count = omega arith

further : (first : Option ℕ) (n hart : ℕ) → reach_behind first (max n (hart + 1)) ≡ max (reach_behind first n) (suc hart + 1)
further first zero hart = behind_some first (max zero (hart + 1)) (omega arith) ∙ omega (arith, behind_none first zero)
further first (suc n) hart = behind_some first (max (suc n) (hart + 1)) (omega arith) ∙ omega (arith, behind_some first (suc n) (omega arith))

pub reach_set : (counts : List (Option ℕ)) (hart count : ℕ) → hart < length counts → reach_of (set counts hart (Some count)) ≡ max (reach_of counts) (hart + 1)
unfolding reach_of
reach_set [] hart count there = absurd (omega (arith, there))
reach_set (first ∷ rest) zero count there = here_some first (reach_of rest) count
reach_set (first ∷ rest) (suc hart) count there =
    ap (reach_behind first) (reach_set rest hart count (omega (arith, there))) ∙ further first (reach_of rest) hart

pub none_at : (n hart : ℕ) → get_or {A = Option ℕ} (replicate n None) hart None ≡ None
none_at zero hart = refl
none_at (suc n) zero = refl
none_at (suc n) (suc hart) = none_at n hart
