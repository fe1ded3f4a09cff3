use Rattle.std.proofs.Common.{◌≡◌}
use Rattle.hart_replay.proofs.walking.Harts.{AreTaken}
use Rattle.hart_replay.proofs.planning.leg_to.Given as goal

abbrev pub invariant-loop-number : goal.invariant-loop-number
invariant-loop-number l =
    record {
      term : l.leg.term ≡ l.opening.term;
      base : l.leg.base ≡ l.opening.base;
      ends : l.leg.ends ≡ l.fn.ends;
      taken : AreTaken l.store l.leg.term l.leg.base l.leg.ends l.leg.edges l.leg.inputs l.leg.marks l.number;
    }
