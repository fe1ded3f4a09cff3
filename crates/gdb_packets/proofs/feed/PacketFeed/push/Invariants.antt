use Rattle.std.proofs.Common.{ℕ, List, ◌++◌, take}
use Rattle.gdb_packets.specs.declared.event.Event.{Event}
use Rattle.gdb_packets.specs.Streams.{Follows}
use Rattle.gdb_packets.proofs.feed.PacketFeed.push.Given as goal

abbrev pub invariant-loop-byte : goal.invariant-loop-byte
invariant-loop-byte l = (stream : List ℕ) (given : List Event) → Follows stream given l.fn.self →
    Follows (stream ++ take l.byte-index l.piece) (given ++ l.events.items) l.feed
