-- The numbers of a pair's keepers: 0, and those from 1 on.
use Rattle.std.proofs.Common.{◌≡◌, ◌<◌, ◌+◌, ◌∙◌, ℕ, zero, suc, List, [], ◌∷◌, ◌++◌, ap, refl, subst, arith}
use Rattle.std.specs.List.{range_with_len}
use Rattle.go_live.specs.Quorums.{distinct_below}

next : (a n : ℕ) → range_with_len a (suc n) ≡ range_with_len a n ++ (a + n) ∷ []
next a zero = ap (λ (k : ℕ). k ∷ []) (omega arith)
next a (suc n) = ap (λ (xs : List ℕ). a ∷ xs) (next (a + 1) n ∙ ap (λ (k : ℕ). range_with_len (a + 1) n ++ k ∷ []) (omega arith))

-- one more
pub one_further : (n : ℕ) → range_with_len 1 (n + 1) ≡ range_with_len 1 n ++ (n + 1) ∷ []
one_further n =
    let more : n + 1 ≡ suc n = omega arith in
    ap (λ (k : ℕ). range_with_len 1 k) more ∙ next 1 n ∙ ap (λ (k : ℕ). range_with_len 1 n ++ k ∷ []) (omega arith)

-- no two are the same, and none is above the last
pub all_differ : (n : ℕ) → n < 5 → distinct_below (suc n) (0 ∷ range_with_len 1 n) ≡ n + 1
all_differ zero few = refl
all_differ (suc zero) few = refl
all_differ (suc (suc zero)) few = refl
all_differ (suc (suc (suc zero))) few = refl
all_differ (suc (suc (suc (suc zero)))) few = refl
all_differ (suc (suc (suc (suc (suc n))))) few = absurd (omega arith)
