use Rattle.std.proofs.Common.{◌≡◌, ◌≤◌}
use Rattle.closed_cut.specs.machinery.Lowering.{IsLoweredTo}
use Rattle.closed_cut.proofs.Lowerings.{AreStopped}
use Rattle.closed_cut.proofs.lowering.fall.Given as goal

abbrev pub invariant-loop-place : goal.invariant-loop-place
invariant-loop-place l =
    record {
      within : l.place ≤ l.end;
      stopped : AreStopped l.edges l.cut l.hart l.place l.end;
      lowered : IsLoweredTo l.edges l.initial.cut l.cut;
      unmoved : l.place ≡ l.end → l.cut ≡ l.initial.cut;
    }

abbrev pub decreases-loop-place : goal.decreases-loop-place
decreases-loop-place l = l.place
