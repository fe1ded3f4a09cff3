-- Rows of flags none of which is set.
use Rattle.std.proofs.Common.{◌≡◌, ℕ, zero, suc, Bool, true, false, List, [], ◌∷◌, length, get_or, count_by, refl, sym, ap, ◌∙◌, arith, true≢false}
use Rattle.std.specs.List.{filter}
use Rattle.std.proofs.lemmas.List.Sums.{length-filter}

no_flag : (xs : List Bool) → ((g : ℕ) → get_or xs g false ≡ true → ⊥) → filter (λ member. member) xs ≡ []
no_flag [] none = refl
no_flag (true ∷ xs) none = absurd (none 0 refl)
no_flag (false ∷ xs) none = no_flag xs (λ g. none (suc g))

-- no flag is set, so none is counted
pub none_counted : (xs : List Bool) → ((g : ℕ) → get_or xs g false ≡ true → ⊥) → count_by (λ member. member) xs ≡ 0
none_counted xs none = sym (length-filter (λ member. member) xs) ∙ ap length (no_flag xs none)

-- none is counted, so no flag is set
pub counted_none : (xs : List Bool) → count_by (λ member. member) xs ≡ 0 → (g : ℕ) → get_or xs g false ≡ true → ⊥
counted_none xs zero_is = go xs (length-filter (λ member. member) xs ∙ zero_is)
  where
    go : (xs : List Bool) → length (filter (λ member. member) xs) ≡ 0 → (g : ℕ) → get_or xs g false ≡ true → ⊥
    go [] e g is = true≢false (sym is)
    go (true ∷ xs) e g is = omega arith
    go (false ∷ xs) e zero is = true≢false (sym is)
    go (false ∷ xs) e (suc g) is = go xs e g is
