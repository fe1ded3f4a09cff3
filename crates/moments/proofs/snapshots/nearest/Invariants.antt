use Rattle.std.proofs.Common.{◌≡◌, ◌≤◌, ◌⊎◌, Contains}
use Rattle.moments.proofs.snapshots.nearest.Given as goal

abbrev pub invariant-loop-snapshot : goal.invariant-loop-snapshot
invariant-loop-snapshot l = ((l.nearest ≡ l.first) ⊎ Contains l.kept l.nearest) × (l.nearest.moment ≤ l.moment)
