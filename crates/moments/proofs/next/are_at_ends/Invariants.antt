use Rattle.std.proofs.Common.{ℕ, ◌<◌, ◌≤◌}
use Rattle.ft_types.specs.Counts.{count_at}
use Rattle.hart_lease.specs.Runs.{counts_of}
use Rattle.moments.specs.machinery.Machines.{machine_of}
use Rattle.moments.proofs.next.are_at_ends.Given as goal

abbrev pub invariant-loop-number : goal.invariant-loop-number
invariant-loop-number l = (hart : ℕ) → hart < l.number → count_at l.leg.ends hart ≤ counts_of (machine_of l.machine) hart
