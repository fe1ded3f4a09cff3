use Rattle.std.proofs.Common.{take}
use Rattle.debugging.specs.Conversations.{Talks}
use Rattle.debugging.proofs.dialogue.Dialogue.hear.Given as goal

abbrev pub invariant-loop-event : goal.invariant-loop-event
invariant-loop-event l = Talks l.fn.self.conversation (take l.event-index l.event-items) l.conversation l.said.items
