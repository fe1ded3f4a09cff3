-- What numbers in lines stand for.
use Rattle.std.specs.Prelude.{ℕ, ◌<◌, ◌^◌}
use Rattle.ft_types.specs.declared.names.TheConstants.{HART_LIMIT}

-- a term that was granted
abbrev pub IsTerm : ℕ → Type 0
IsTerm t = (0 < t) × (t < 2 ^ 32)

-- a hart below this number of harts, and below HART_LIMIT
abbrev pub IsHart : ℕ → ℕ → Type 0
IsHart harts hart = (hart < harts) × (hart < HART_LIMIT)
