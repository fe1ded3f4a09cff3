use Rattle.std.proofs.Common.{◌<◌, ◌≤◌, ℕ}
use Rattle.ft_types.specs.Counts.{count_at}
use Rattle.warm_backup.proofs.work.are_within.Given as goal

abbrev pub invariant-loop-number : goal.invariant-loop-number
invariant-loop-number l = (hart : ℕ) → hart < l.number → count_at l.counts hart ≤ count_at l.others hart
