use Rattle.std.proofs.Common.{◌≡◌, ℕ, List, Option, ◌++◌, ap, sym, subst, ◌∙◌}
use Rattle.std.specs.Option.{option_to_list}
use Rattle.std.proofs.lemmas.List.{take_all, append-nil}
use Rattle.gdb_packets.specs.declared.event.Event.{Event}
use Rattle.gdb_packets.specs.Streams.{Follows}
use Rattle.gdb_packets.proofs.Feeds.{follows_more}
use Rattle.gdb_packets.proofs.feed.PacketFeed.push.Goals as goal
use Rattle.gdb_packets.proofs.feed.PacketFeed.push.Goals.{in-Some+in_ok-push, in_default}

pub loop-byte-preserved : goal.loop-byte-preserved
loop-byte-preserved c = λ stream given f.
    let r = c.in_ok-told.told in
    let more : c.match-told.events.items ≡ c.loop-byte.events.items ++ option_to_list r =
    elim c.match-told.branch [
      | in-Some+in_ok-push w ↦ ap (λ v. v.items) w.events-is ∙ w.in_ok-push.ensures.items
          ∙ ap (λ (r : Option Event). c.loop-byte.events.items ++ option_to_list r) (sym w.in-Some.is)
      | in_default w ↦ ap (λ v. v.items) w.events-is ∙ sym (append-nil c.loop-byte.events.items)
          ∙ ap (λ (r : Option Event). c.loop-byte.events.items ++ option_to_list r) (sym w.in_default.is)
    ]
    in
    follows_more stream c.args.piece.now given c.loop-byte.events.items c.match-told.events.items c.loop-byte.feed c.take.new.self c.loop-byte.byte-index
    r c.loop-byte-test.true c.in_ok-told.ensures more (c.loop-byte.invariant stream given f)

pub returns : goal.returns
returns c = record {
  given = λ stream given f. subst (λ (t : List ℕ). Follows (stream ++ t) (given ++ c.loop-byte.events.items) c.loop-byte.feed)
      (take_all c.loop-byte.byte-index c.args.piece.now c.loop-byte-test.false) (c.loop-byte.invariant stream given f);
}
