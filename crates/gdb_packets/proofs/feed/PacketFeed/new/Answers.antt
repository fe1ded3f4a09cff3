use Rattle.std.proofs.Common.{refl, [], inl}
use Rattle.gdb_packets.proofs.feed.PacketFeed.new.Goals as goal

pub returns : goal.returns
returns c = record { items = []; body = []; rest = []; stream_is = refl; each = tt; given_are = refl; begun_is = refl; plain = tt; held = inl c.new.ensures.items }
