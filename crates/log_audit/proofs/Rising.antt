-- Rows whose counts rise.
use Rattle.std.proofs.Common.{◌≡◌, ◌≤◌, List, AllPairs, get_or, inl, inr, subst, arith, le_refl}
use Rattle.std.proofs.lemmas.Bool.{cases_lt}
use Rattle.std.specs.List.Sorted.{IsNonDecreasingBy}
use Rattle.log_audit.specs.declared.befores.Before.{Before}

pub rising_by : (xs : List Before) → AllPairs (λ a b. a.since ≤ b.since) xs → IsNonDecreasingBy (λ b. b.since) xs
rising_by xs rising i j d le below =
    elim (cases_lt i j) [
      | inl less ↦ rising i j d less below
      | inr more ↦ let same : i ≡ j = omega arith in subst (λ k. (get_or xs i d).since ≤ (get_or xs k d).since) same (le_refl (get_or xs i d).since)
    ]
