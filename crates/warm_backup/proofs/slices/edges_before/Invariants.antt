use Rattle.std.proofs.Common.{◌≤◌, length}
use Rattle.std.specs.List.{AllWithin}
use Rattle.warm_backup.proofs.slices.edges_before.Given as goal

abbrev pub invariant-loop-many : goal.invariant-loop-many
invariant-loop-many l =
    record { within : l.many ≤ length l.edges; from : AllWithin (λ e. l.end ≤ e.at) l.edges l.many (length l.edges) }

abbrev pub decreases-loop-many : goal.decreases-loop-many
decreases-loop-many l = l.many
