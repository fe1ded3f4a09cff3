-- The rounds of a primary.
use Rattle.std.specs.Prelude.{◌≡◌, ◌+◌, ◌*◌, ◌<◌, ℕ, List, length, max, min, slice_index}
use Rattle.pair.specs.declared.rounds.TheConstants.{ROUND}

-- each hart goes so many times ROUND steps further, or to the budget where that comes first, and none goes back
abbrev pub AreRoundsFrom : List ℕ → ℕ → ℕ → List ℕ → Type 0
AreRoundsFrom counts budget rounds end =
    (hart : ℕ) → hart < length counts →
    slice_index end hart ≡ max (slice_index counts hart) (min budget (slice_index counts hart + rounds * ROUND))
