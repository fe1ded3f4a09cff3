-- Where rounds go.
use Rattle.std.proofs.Common.{◌≡◌, ◌+◌, ◌*◌, ℕ, List, length, max, min, slice_index, inl, inr, arith}
use Rattle.std.proofs.lemmas.Bool.{cases_lt}
use Rattle.std.proofs.lemmas.List.{get_or_past}
use Rattle.ft_types.specs.Counts.{count_at, IsWithin}
use Rattle.pair.specs.Rounds.{AreRoundsFrom}
use Rattle.pair.specs.declared.rounds.TheConstants.{ROUND}

-- no hart goes back
pub goes_forward : (counts : List ℕ) (budget rounds : ℕ) (end : List ℕ) → length end ≡ length counts → AreRoundsFrom counts budget rounds end →
    IsWithin counts end
goes_forward counts budget rounds end same round hart = elim (cases_lt hart (length counts)) [
  | inl below ↦ (
      let e : slice_index end hart ≡ max (slice_index counts hart) (min budget (slice_index counts hart + rounds * ROUND)) = round hart below in omega (arith, e)
      )
  | inr over ↦ (let e : count_at counts hart ≡ 0 = get_or_past counts hart 0 over in omega (arith, e))
]
