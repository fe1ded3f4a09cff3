use Rattle.std.proofs.Common.{◌≡◌, length, take, drop}
use Rattle.ft_types.specs.Counts.{lesser}
use Rattle.ft_types.specs.declared.names.TheConstants.{HART_ROW}
use Rattle.ft_types.proofs.counts.least.Given as goal

abbrev pub invariant-loop-i : goal.invariant-loop-i
invariant-loop-i l =
    (take l.i l.least ≡ lesser (take l.i l.row) (take l.i l.other)) × (drop l.i l.least ≡ drop l.i l.row) × (length l.least ≡ HART_ROW)
