-- Keys of fragments, and how they are kept: private words.
use Rattle.std.specs.Prelude.{◌≡◌, ℕ, ◌+◌, ◌*◌, ◌/◌, ◌%◌, ◌^◌}
use Rattle.std.specs.declared.cmp.Ordering.{Ordering}
use Rattle.std.proofs.Common.{arith}
use Rattle.fragment_codec.specs.declared.types.Key.{Key}
use Rattle.log_join.specs.Stores.{key_cmp}

-- a fragment's key
pub record Place : Type 0 where
  pub term : ℕ
  pub hart : ℕ
  pub place : ℕ

abbrev pub key_of : Place → Key
key_of p = record { term = p.term; hart = p.hart; place = p.place }

abbrev pub place_of : Key → Place
place_of k = record { term = k.term; hart = k.hart; place = k.place }

abbrev pub place_cmp : Place → Place → Ordering
place_cmp a b = key_cmp (key_of a) (key_of b)

-- ---- the hart and the place in one number

abbrev pub spot_of : Place → ℕ
spot_of p = p.hart * 2 ^ 32 + p.place

abbrev pub apart : ℕ → ℕ → Place
apart term spot = record { term = term; hart = spot / 2 ^ 32; place = spot % 2 ^ 32 }

pub spot_of-apart : (term spot : ℕ) → spot_of (apart term spot) ≡ spot
spot_of-apart term spot = omega arith
