use Rattle.std.proofs.Common.{◌≡◌, length}
use Rattle.std.specs.Option.{option_map}
use Rattle.ft_types.specs.Counts.{count_at}
use Rattle.closed_cut.specs.Position.{base_of}
use Rattle.tracked_position.specs.machinery.Cuts.{IsHigh}
use Rattle.tracked_position.specs.machinery.Waits.{total}
use Rattle.tracked_position.proofs.lowering.lower.Given as goal

abbrev pub invariant-loop : goal.invariant-loop
invariant-loop l =
    record {
      harts : length l.high ≡ length l.cut;
      high : IsHigh l.store l.opening.term (base_of l.opening) (option_map count_at l.limit) (count_at l.high);
    }

abbrev pub decreases-loop : goal.decreases-loop
decreases-loop l = total l.high
