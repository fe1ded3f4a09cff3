use Rattle.std.proofs.Common.{◌≡◌, List, ◌++◌}
use Rattle.std.specs.Vec.Iter.{into_iter_items}
use Rattle.fragment_codec.specs.declared.frame.Frame.{Frame}
use Rattle.log_join.specs.Stores.{StoreView}
use Rattle.log_streams.specs.machinery.Reading.{Takes}
use Rattle.log_streams.proofs.reading.put_all.Given as goal

abbrev pub invariant-loop-frame : goal.invariant-loop-frame
invariant-loop-frame l =
    ((first : StoreView) (given : List Frame) → Takes first given l.fn.store → Takes first (given ++ l.yielded) l.store)
    × (l.yielded ++ into_iter_items l.frame-iterator ≡ into_iter_items l.initial.frame-iterator)
