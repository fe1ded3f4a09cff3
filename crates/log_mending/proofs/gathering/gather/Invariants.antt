use Rattle.std.proofs.Common.{◌≡◌, ◌++◌, length}
use Rattle.std.specs.Vec.Iter.{into_iter_items}
use Rattle.log_join.specs.Coming.{IsJoinOf}
use Rattle.log_mending.proofs.gathering.gather.Given as goal

abbrev pub invariant-loop-frame : goal.invariant-loop-frame
invariant-loop-frame l =
    IsJoinOf l.fn.guest l.yielded l.store × (length l.yielded ≡ l.taken) ×
    (l.yielded ++ into_iter_items l.frame-iterator ≡ into_iter_items l.initial.frame-iterator)
