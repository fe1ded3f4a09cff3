use Rattle.std.proofs.Common.{◌≤◌, length}
use Rattle.std.specs.List.{AllWithin}
use Rattle.warm_backup.proofs.slices.counts_before.Given as goal

abbrev pub invariant-loop-many : goal.invariant-loop-many
invariant-loop-many l =
    record { within : l.many ≤ length l.counts; from : AllWithin (λ n. l.end ≤ n) l.counts l.many (length l.counts) }

abbrev pub decreases-loop-many : goal.decreases-loop-many
decreases-loop-many l = l.many
