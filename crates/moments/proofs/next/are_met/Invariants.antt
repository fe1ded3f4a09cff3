use Rattle.std.proofs.Common.{All, ◌≤◌, take}
use Rattle.hart_lease.specs.Runs.{counts_of}
use Rattle.moments.specs.machinery.Machines.{machine_of}
use Rattle.moments.proofs.next.are_met.Given as goal

abbrev pub invariant-loop-edge : goal.invariant-loop-edge
invariant-loop-edge l = All (λ e. e.after ≤ counts_of (machine_of l.machine) e.other) (take l.edge-index l.edges)
