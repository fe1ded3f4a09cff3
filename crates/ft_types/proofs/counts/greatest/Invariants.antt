use Rattle.std.proofs.Common.{◌≡◌, length, take, drop}
use Rattle.ft_types.specs.Counts.{greater}
use Rattle.ft_types.specs.declared.names.TheConstants.{HART_ROW}
use Rattle.ft_types.proofs.counts.greatest.Given as goal

abbrev pub invariant-loop-i : goal.invariant-loop-i
invariant-loop-i l =
    (take l.i l.greatest ≡ greater (take l.i l.row) (take l.i l.other)) × (drop l.i l.greatest ≡ drop l.i l.row) × (length l.greatest ≡ HART_ROW)
