use Rattle.std.proofs.Common.{◌≡◌, length}
use Rattle.ft_types.specs.Counts.{count_at}
use Rattle.closed_cut.specs.Position.{base_of}
use Rattle.std.specs.Option.{option_map}
use Rattle.tracked_position.specs.machinery.Cuts.{IsCutOf}
use Rattle.tracked_position.specs.machinery.Walks.{AreOver}
use Rattle.tracked_position.specs.machinery.Waits.{room}
use Rattle.tracked_position.proofs.raising.raise.Given as goal

abbrev pub invariant-loop-swept : goal.invariant-loop-swept
invariant-loop-swept l =
    record {
      harts : length l.cut ≡ length l.initial.cut;
      cut : IsCutOf l.store l.opening.term (base_of l.opening) (option_map count_at l.limit) (count_at l.cut);
      over : AreOver l.store l.opening.term (base_of l.opening) (count_at l.cut) l.cursors;
    }

abbrev pub decreases-loop-swept : goal.decreases-loop-swept
decreases-loop-swept l = room l.cut
