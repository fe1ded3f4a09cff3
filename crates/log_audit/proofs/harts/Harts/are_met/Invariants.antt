use Rattle.std.proofs.Common.{All, ◌≤◌, take}
use Rattle.hart_lease.specs.Runs.{counts_of}
use Rattle.log_audit.specs.machinery.Covered.{machine_of}
use Rattle.log_audit.proofs.harts.Harts.are_met.Given as goal

abbrev pub invariant-loop-edge : goal.invariant-loop-edge
invariant-loop-edge l = All (λ e. e.after ≤ counts_of (machine_of l.self) e.other) (take l.edge-index l.edges)
