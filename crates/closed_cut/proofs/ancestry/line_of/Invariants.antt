use Rattle.std.proofs.Common.{◌<◌, reverse}
use Rattle.closed_cut.specs.Chain.{Sound, LeadsTo}
use Rattle.closed_cut.proofs.ancestry.line_of.Given as goal

abbrev pub invariant-loop-opening : goal.invariant-loop-opening
invariant-loop-opening l =
    record {
      leads : LeadsTo l.store l.term (reverse l.line.items) l.top;
      sound : 0 < l.term → Sound l.store l.term;
    }

abbrev pub decreases-loop-opening : goal.decreases-loop-opening
decreases-loop-opening l = l.term
