-- Rows as wide as any guest's: private words.
use Rattle.std.specs.Prelude.{ℕ, ◌-◌, List, ◌++◌, length, replicate}
use Rattle.ft_types.specs.declared.names.TheConstants.{HART_ROW}

-- these counts, and one of 0 for each hart behind them
abbrev pub widened : List ℕ → List ℕ
widened counts = counts ++ replicate (HART_ROW - length counts) 0
