use Rattle.gdb_packets.proofs.Feeds.{follows_byte}
use Rattle.gdb_packets.proofs.feed.PacketFeed.take_between.Goals as goal

pub returns-then-byte-ne36 : goal.returns-then-byte-ne36
returns-then-byte-ne36 c = λ stream given f. rw c.said_by.ensures (follows_byte stream given c.args.self.now c.args.byte c.requires c.if-byte-ne36.true f)
