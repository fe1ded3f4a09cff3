-- Those that are enough and more than half.
use Rattle.std.proofs.Common.{◌≡◌, ◌↔◌, ℕ, ◌+◌, ◌-◌, ◌*◌, ◌/◌, ◌%◌, ◌<◌, ◌≤◌, List, arith}
use Rattle.std.proofs.Math.Nat.{div-add-mod, mod-lt}
use Rattle.go_live.specs.Quorums.{distinct_below, AreEnough, MostOf}

-- twice a half is the number, or one less
half : (k : ℕ) → (k / 2 + k / 2 ≤ k) × (k ≤ k / 2 + k / 2 + 1)
half k =
    let e : 2 * (k / 2) + k % 2 ≡ k = div-add-mod k 2 in
    let l : k % 2 < 2 = mod-lt k (omega arith) in
    (omega (arith, e), omega (arith, e, l))

pub need_is_less : (keepers need : ℕ) → 0 < need → need ≤ keepers → need < keepers - keepers / 2 → (here : List ℕ) →
    AreEnough keepers need here ↔ (AreEnough keepers need here × MostOf keepers here)
need_is_less keepers need some limit less here =
    of (distinct_below keepers here) (half keepers).0 (half keepers).1
  where
    of : (many : ℕ) → keepers / 2 + keepers / 2 ≤ keepers → keepers ≤ keepers / 2 + keepers / 2 + 1 →
        (keepers - need + 1 ≤ many) ↔ ((keepers - need + 1 ≤ many) × (keepers < many + many))
    of many low high = (λ enough. (enough, omega (arith, low, high, limit, less, enough)), λ both. both.0)

pub most_is_less : (keepers need : ℕ) → 0 < need → need ≤ keepers → keepers - keepers / 2 ≤ need → (here : List ℕ) →
    AreEnough keepers (keepers - keepers / 2) here ↔ (AreEnough keepers need here × MostOf keepers here)
most_is_less keepers need some limit less here =
    of (distinct_below keepers here) (half keepers).0 (half keepers).1
  where
    of : (many : ℕ) → keepers / 2 + keepers / 2 ≤ keepers → keepers ≤ keepers / 2 + keepers / 2 + 1 →
        (keepers - (keepers - keepers / 2) + 1 ≤ many) ↔ ((keepers - need + 1 ≤ many) × (keepers < many + many))
    of many low high = (
      λ enough. (omega (arith, low, high, limit, less, enough), omega (arith, low, high, enough)),
      λ both. let most = both.1 in omega (arith, low, high, most),
    )
