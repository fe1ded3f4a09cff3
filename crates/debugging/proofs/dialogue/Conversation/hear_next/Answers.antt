use Rattle.std.proofs.Common.{sym, ap, ◌∙◌}
use Rattle.std.proofs.lemmas.Result.{on_ok_weaker}
use Rattle.debugging.specs.Conversations.{ConversationView}
use Rattle.debugging.proofs.Sending.{next_heard}
use Rattle.debugging.proofs.dialogue.Conversation.hear_next.Goals as goal

pub returns : goal.returns
returns c = on_ok_weaker c.hear.result
    (next_heard c.args.event.now c.args.self.now c.hear.new.self c.args.said.now.items c.hear.new.said.items
    (ap (λ (v : ConversationView). v.is_over) (sym c.self.view_is) ∙ c.if-self.false)) c.hear.ensures
