use Rattle.std.proofs.Common.{◌≡◌, ◌^◌, ◌-◌, length, replicate, take}
use Rattle.primary.proofs.limits.no_limits.Given as goal

abbrev pub invariant-loop-number : goal.invariant-loop-number
invariant-loop-number l = (length l.limits ≡ l.fn.harts) × (take l.number l.limits ≡ replicate l.number (2 ^ 48 - 1))
