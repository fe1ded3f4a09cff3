use Rattle.std.proofs.Common.{◌≡◌, ◌++◌, take, drop, replicate}
use Rattle.ft_types.specs.declared.names.TheConstants.{HART_ROW}
use Rattle.log_audit.proofs.trimmed.TrimmedRow.row.Given as goal

abbrev pub invariant-loop-hart : goal.invariant-loop-hart
invariant-loop-hart l = l.row ≡ take l.hart l.self-inside.counts.items ++ drop l.hart (replicate HART_ROW 0)
