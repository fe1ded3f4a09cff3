use Rattle.std.proofs.Common.{◌≡◌, ◌<◌, ◌⊎◌, Contains}
use Rattle.hart_lease.specs.Runs.{counts_of}
use Rattle.moments.specs.machinery.Machines.{machine_of}
use Rattle.moments.proofs.snapshots.last_below.Given as goal

abbrev pub invariant-loop-snapshot : goal.invariant-loop-snapshot
invariant-loop-snapshot l =
    ((l.last ≡ l.first) ⊎ Contains l.kept l.last) × ((l.last ≡ l.first) ⊎ (counts_of (machine_of l.last.machine) l.hart < l.count))
