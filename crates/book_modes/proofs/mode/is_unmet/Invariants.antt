use Rattle.std.proofs.Common.{◌≤◌}
use Rattle.std.specs.List.{AllWithin}
use Rattle.hart_lease.specs.Runs.{counts_of}
use Rattle.book_modes.proofs.mode.is_unmet.Given as goal

abbrev pub invariant-loop-edge : goal.invariant-loop-edge
invariant-loop-edge l = AllWithin (λ e. e.after ≤ counts_of l.machine e.other) l.edges 0 l.edge-index
