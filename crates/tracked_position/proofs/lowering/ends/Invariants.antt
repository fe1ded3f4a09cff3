use Rattle.std.specs.Option.{option_map}
use Rattle.ft_types.specs.Counts.{count_at}
use Rattle.closed_cut.specs.Position.{base_of}
use Rattle.tracked_position.proofs.Bounds.{AreEnds}
use Rattle.tracked_position.proofs.lowering.ends.Given as goal

abbrev pub invariant-loop-number : goal.invariant-loop-number
invariant-loop-number l = AreEnds l.store l.opening.term (base_of l.opening) (option_map count_at l.limit) l.cut l.ends l.number
