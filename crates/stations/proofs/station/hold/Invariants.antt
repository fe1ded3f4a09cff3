use Rattle.std.proofs.Common.{◌≡◌, ◌++◌}
use Rattle.std.specs.Vec.Iter.{into_iter_items}
use Rattle.log_join.specs.Coming.{IsJoinOf}
use Rattle.stations.proofs.station.hold.Given as goal

abbrev pub invariant-loop-frame : goal.invariant-loop-frame
invariant-loop-frame l =
    IsJoinOf l.fn.guest l.yielded l.held × (l.yielded ++ into_iter_items l.frame-iterator ≡ into_iter_items l.initial.frame-iterator)
