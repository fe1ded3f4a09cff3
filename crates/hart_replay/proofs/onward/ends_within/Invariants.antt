use Rattle.std.proofs.Common.{◌<◌, ◌≤◌, ℕ}
use Rattle.ft_types.specs.Counts.{count_at}
use Rattle.hart_replay.proofs.onward.ends_within.Given as goal

abbrev pub invariant-loop-number : goal.invariant-loop-number
invariant-loop-number l = (hart : ℕ) → hart < l.number → count_at l.leg.ends hart ≤ count_at l.later.ends hart
