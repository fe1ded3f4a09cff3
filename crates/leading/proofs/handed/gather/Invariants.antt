use Rattle.std.proofs.Common.{◌≡◌, ◌++◌}
use Rattle.std.specs.Vec.Iter.{into_iter_items}
use Rattle.log_join.specs.Coming.{IsJoinOf}
use Rattle.leading.proofs.handed.gather.Given as goal

abbrev pub invariant-loop-frame : goal.invariant-loop-frame
invariant-loop-frame l =
    IsJoinOf l.fn.guest l.yielded l.store × (l.yielded ++ into_iter_items l.frame-iterator ≡ into_iter_items l.initial.frame-iterator)
