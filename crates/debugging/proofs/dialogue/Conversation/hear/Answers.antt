use Rattle.std.proofs.Common.{ℕ, List, OnOk, sym, subst}
use Rattle.std.proofs.lemmas.Result.{on_ok_weaker}
use Rattle.gdb_packets.specs.declared.event.Event.{Event}
use Rattle.debugging.specs.Conversations.{Hears, HearsPacket}
use Rattle.debugging.specs.machinery.Added.{Adds}
use Rattle.debugging.proofs.Sending.{broken_heard, again_heard}
use Rattle.debugging.proofs.dialogue.Conversation.hear.Goals as goal

pub returns-in-Packet : goal.returns-in-Packet
returns-in-Packet c =
    let heard = subst (λ (p : List ℕ). OnOk c.answer.result (Adds c.args.said.now.items c.answer.new.said.items (HearsPacket p c.args.self.now c.answer.new.self)))
    c.as_slice.ensures c.answer.ensures in
    subst (λ (e : Event). OnOk c.answer.result (Adds c.args.said.now.items c.answer.new.said.items (Hears e c.args.self.now c.answer.new.self))) (sym c.in-Packet.is) heard

pub returns-in-Broken : goal.returns-in-Broken
returns-in-Broken c = on_ok_weaker c.acknowledge.result (broken_heard _ _ _ _ c.in-Broken.is) c.acknowledge.ensures

pub returns-in-Again : goal.returns-in-Again
returns-in-Again c = on_ok_weaker c.say_again.result (again_heard _ _ _ _ c.in-Again.is) c.say_again.ensures
