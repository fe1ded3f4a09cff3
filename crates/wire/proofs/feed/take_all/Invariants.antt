use Rattle.std.proofs.Common.{ℕ, List, ◌++◌, take}
use Rattle.wire.specs.Feeds.{Follows}
use Rattle.wire.proofs.feed.take_all.Given as goal

abbrev pub invariant-loop-byte : goal.invariant-loop-byte
invariant-loop-byte l = (stream : List ℕ) (given : List (List ℕ)) → Follows stream given l.fn.held →
    Follows (stream ++ take l.byte-index l.piece) (given ++ l.lines.items) l.held
