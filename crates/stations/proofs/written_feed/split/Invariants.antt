use Rattle.std.proofs.Common.{◌≡◌, ℕ, List, ◌++◌}
use Rattle.std.specs.Vec.Iter.{into_iter_items}
use Rattle.fragment_codec.specs.Streams.{Splits}
use Rattle.stations.proofs.written_feed.split.Given as goal

abbrev pub invariant-loop-frame : goal.invariant-loop-frame
invariant-loop-frame l =
    (l.written.items ++ into_iter_items l.frame-iterator ≡ into_iter_items l.initial.frame-iterator)
    × ((last : List ℕ) → Splits l.bytes (into_iter_items l.initial.frame-iterator) last → Splits l.rest (into_iter_items l.frame-iterator) last)
