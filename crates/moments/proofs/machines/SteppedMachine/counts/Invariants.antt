use Rattle.std.proofs.Common.{◌≡◌, ◌<◌, ℕ, length, slice_index}
use Rattle.hart_lease.specs.Runs.{counts_of}
use Rattle.moments.specs.machinery.Machines.{machine_of}
use Rattle.moments.proofs.machines.SteppedMachine.counts.Given as goal

abbrev pub invariant-loop-number : goal.invariant-loop-number
invariant-loop-number l =
    (length l.counts ≡ l.number-end) × ((hart : ℕ) → hart < l.number → slice_index l.counts hart ≡ counts_of (machine_of l.self) hart)
