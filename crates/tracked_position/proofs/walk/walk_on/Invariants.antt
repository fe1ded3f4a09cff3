use Rattle.std.proofs.Common.{◌-◌, ◌^◌}
use Rattle.ft_types.specs.Counts.{count_at}
use Rattle.closed_cut.specs.Position.{pieces_of}
use Rattle.tracked_position.specs.machinery.Walks.{GoesTo}
use Rattle.tracked_position.proofs.walk.walk_on.Given as goal

abbrev pub invariant-loop-now : goal.invariant-loop-now
invariant-loop-now l = GoesTo (pieces_of l.store l.term l.hart) (count_at l.cut) l.ceiling l.initial.now l.now

abbrev pub decreases-loop-now : goal.decreases-loop-now
decreases-loop-now l = 2 ^ 32 - l.now.place
