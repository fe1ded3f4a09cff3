-- A book that runs to its own limits.
use Rattle.std.proofs.Common.{◌≡◌, ℕ, max, List, [], ◌∷◌, ◌∙◌, ap, refl, arith}
use Rattle.ft_types.specs.Counts.{greater}

greater_same : (xs : List ℕ) → greater xs xs ≡ xs
greater_same [] = refl
greater_same (x ∷ xs) =
    let same : max x x ≡ x = omega arith in
    ap (λ (n : ℕ). n ∷ greater xs xs) same ∙ ap (λ (ys : List ℕ). x ∷ ys) (greater_same xs)

-- the greater of its limits and budgets that are these limits
pub limits_stay : (was budget now : List ℕ) → budget ≡ was → now ≡ greater budget was → now ≡ was
limits_stay was budget now same is = is ∙ ap (λ (xs : List ℕ). greater xs was) same ∙ greater_same was
