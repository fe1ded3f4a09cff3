use Rattle.std.proofs.Common.{◌≤◌, length}
use Rattle.std.specs.List.{AllWithin}
use Rattle.edge_log.specs.Rows.{CannotComeBefore}
use Rattle.edge_log.proofs.row.place_of.Given as goal

abbrev pub invariant-loop-place : goal.invariant-loop-place
invariant-loop-place l =
    record {
      within : l.place ≤ length l.edges;
      behind : AllWithin (λ e. CannotComeBefore e l.edge) l.edges l.place (length l.edges);
    }

abbrev pub decreases-loop-place : goal.decreases-loop-place
decreases-loop-place l = l.place
