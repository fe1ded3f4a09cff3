use Rattle.std.proofs.Common.{sym, subst}
use Rattle.gdb_packets.specs.Streams.{Unread, Follows}
use Rattle.gdb_packets.specs.machinery.Steps.{IsInside}
use Rattle.gdb_packets.proofs.Feeds.{follows_inside}
use Rattle.gdb_packets.proofs.feed.PacketFeed.take_more.Goals as goal

pub returns : goal.returns
returns c = λ stream given f.
    let back = sym c.self.view_is in
    rw c.next-self-inside.ensures
    (follows_inside stream given (record { place = c.self.inside.place; text = c.self.inside.text.items }) c.args.byte c.hold.new.text.items
    (subst (λ (u : Unread). IsInside u.place) back c.requires) c.in_ok-hold.ensures (subst (λ (u : Unread). Follows stream given u) back f))
