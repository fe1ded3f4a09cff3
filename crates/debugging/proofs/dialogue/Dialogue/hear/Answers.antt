use Rattle.std.proofs.Common.{List, take, sym, subst, ◌∙◌}
use Rattle.std.proofs.lemmas.List.{take_all}
use Rattle.gdb_packets.specs.declared.event.Event.{Event}
use Rattle.gdb_packets.specs.Streams.{Follows}
use Rattle.debugging.specs.Conversations.{DialogueView, Talks}
use Rattle.debugging.proofs.Sending.{talks_none, talks_on}
use Rattle.debugging.proofs.dialogue.Dialogue.hear.Goals as goal

pub loop-event-init : goal.loop-event-init
loop-event-init c = subst (λ (v : DialogueView). Talks v.conversation (take 0 c.deref-event-items.result.now) c.self.inside.conversation c.new-said.result.items) c.self.view_is
    (talks_none c.self.inside.conversation c.deref-event-items.result.now _ c.new-said.ensures.items)

pub loop-event-preserved : goal.loop-event-preserved
loop-event-preserved c = talks_on c.args.self.conversation c.loop-event.conversation c.hear_next.new.self c.deref-event-items.result.now c.loop-event.event-index _
    c.loop-event.said.items c.hear_next.new.said.items c.loop-event-test.true c.event-item.is c.loop-event.invariant c.in_ok-hear_next.ensures

pub returns : goal.returns
returns c = record {
  heard = λ stream given follows. record {
    events = c.in_ok-feed.events.items;
    follows = c.in_ok-feed.ensures.given stream given (subst (λ (v : DialogueView). Follows stream given v.feed) (sym c.self.view_is) follows);
    talks = subst (λ (events : List Event). Talks c.args.self.conversation events c.loop-event.conversation c.loop-event.said.items)
        (take_all c.loop-event.event-index c.deref-event-items.result.now c.loop-event-test.false ∙ c.deref-event-items.ensures.value) c.loop-event.invariant;
  };
}
