use Rattle.std.proofs.Common.{◌≡◌, ℕ, List, ◌++◌, ◌∷◌, [], length, subst}
use Rattle.gdb_packets.specs.Streams.{IsBody, IsHeld, Unread, framed}
use Rattle.gdb_packets.specs.machinery.Steps.{Says}
use Rattle.gdb_packets.proofs.Feeds.{follows_last}
use Rattle.gdb_packets.proofs.feed.PacketFeed.take_last.Goals as goal

pub returns : goal.returns
returns c = λ stream given f.
    let holds = subst (λ (u : Unread). (rest : List ℕ) → IsHeld rest u.text → IsHeld (rest ++ c.args.byte ∷ []) c.hold.new.text.items) c.self.view_is c.in_ok-hold.ensures in
    let says = subst
    (λ (t : List ℕ). (body digits : List ℕ) → IsBody body → length digits ≡ 2 → IsHeld (framed body digits) t → Says (framed body digits) c.in_ok-event.event)
    c.deref.ensures.value c.in_ok-event.ensures in
    follows_last stream given c.args.self.now c.args.byte c.hold.new.text.items c.clear.new.self.items c.in_ok-event.event c.requires holds says
    c.clear.ensures.items f
