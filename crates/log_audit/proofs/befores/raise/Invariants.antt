use Rattle.std.proofs.Common.{◌≡◌, length, take}
use Rattle.ft_types.specs.Counts.{greater}
use Rattle.ft_types.specs.declared.names.TheConstants.{HART_ROW}
use Rattle.log_audit.proofs.befores.raise.Given as goal

abbrev pub invariant-loop-hart : goal.invariant-loop-hart
invariant-loop-hart l = (take l.hart l.row ≡ greater (take l.hart l.before) (take l.hart l.other)) × (length l.row ≡ HART_ROW)
