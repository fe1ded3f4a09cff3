use Rattle.std.proofs.Common.{◌≡◌, ◌++◌}
use Rattle.std.specs.Vec.Iter.{into_iter_items}
use Rattle.live_world.specs.Calls.{TakesAll}
use Rattle.live_world.proofs.keepers.take_all.Given as goal

abbrev pub invariant-loop-frame : goal.invariant-loop-frame
invariant-loop-frame l =
    TakesAll l.yielded l.fn.site l.site × (l.yielded ++ into_iter_items l.frame-iterator ≡ into_iter_items l.initial.frame-iterator)
