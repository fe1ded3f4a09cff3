use Rattle.std.proofs.Common.{◌≡◌, ◌++◌, ℕ, List}
use Rattle.std.specs.Slice.Iter.{chunks_rest}
use Rattle.fragment_codec.specs.declared.frame.Frame.{Frame}
use Rattle.fragment_codec.specs.Streams.{Follows}
use Rattle.live_world.specs.Calls.{TakesAll}
use Rattle.live_world.proofs.keepers.take_stream.Given as goal

abbrev pub invariant-loop-piece : goal.invariant-loop-piece
invariant-loop-piece l =
    (front : List ℕ) × (given : List Frame) × (l.stream ≡ front ++ chunks_rest l.piece-iterator) × Follows front given l.feed ×
    TakesAll given l.fn.site l.site
