use Rattle.std.proofs.Common.{◌<◌, ◌≤◌, ℕ}
use Rattle.ft_types.specs.Counts.{count_at}
use Rattle.hart_lease.specs.Runs.{counts_of}
use Rattle.warm_backup.proofs.leading.are_at_ends.Given as goal

abbrev pub invariant-loop-number : goal.invariant-loop-number
invariant-loop-number l = (hart : ℕ) → hart < l.number → count_at l.ends hart ≤ counts_of l.machine hart
