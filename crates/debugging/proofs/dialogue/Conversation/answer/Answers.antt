use Rattle.std.proofs.Common.{◌++◌, subst}
use Rattle.debugging.specs.Conversations.{ConversationView, sign, packet_of, HearsPacket}
use Rattle.debugging.proofs.Sending.{adds_both, packet_heard}
use Rattle.debugging.proofs.dialogue.Conversation.answer.Goals as goal

pub returns : goal.returns
returns c = (
  _,
  adds_both _ _ _ _ _ c.in_ok-acknowledge.ensures c.in_ok-say.ensures.said,
  subst (λ (v : ConversationView). HearsPacket c.args.packet.now v c.say.new.self (sign v 43 ++ packet_of c.in_ok-answer.answer)) c.self.view_is
      (packet_heard _ _ _ _ _ _ (record { answers = c.in_ok-answer.ensures.answers; still = c.in_ok-answer.ensures.still; line = c.in_ok-answer.ensures.line })
      c.acknowledges_behind-self-inside.ensures.quiet c.acknowledges_behind-self-inside.ensures.other c.in_ok-say.ensures.last),
)
