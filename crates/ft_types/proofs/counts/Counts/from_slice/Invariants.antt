use Rattle.std.proofs.Common.{◌≡◌, take}
use Rattle.ft_types.specs.machinery.Rows.{IsRow}
use Rattle.ft_types.proofs.counts.Counts.from_slice.Given as goal

abbrev pub invariant-loop-i : goal.invariant-loop-i
invariant-loop-i l = IsRow l.row l.i × (take l.i l.row ≡ take l.i l.counts)
