use Rattle.std.proofs.Common.{◌≡◌, take}
use Rattle.log_audit.proofs.trimmed.TrimmedRow.of.Given as goal

abbrev pub invariant-loop-hart : goal.invariant-loop-hart
invariant-loop-hart l = l.counts.items ≡ take l.hart l.row
