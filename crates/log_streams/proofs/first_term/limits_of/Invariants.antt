use Rattle.std.proofs.Common.{◌≡◌, length, take, replicate}
use Rattle.log_streams.proofs.first_term.limits_of.Given as goal

abbrev pub invariant-loop-number : goal.invariant-loop-number
invariant-loop-number l = (length l.limits ≡ l.harts) × (take l.number l.limits ≡ replicate l.number l.limit)
