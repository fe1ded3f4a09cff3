use Rattle.std.proofs.Common.{◌-◌, length}
use Rattle.client_turns.proofs.Steps.{HasAsked}
use Rattle.client_turns.proofs.talking.ask_all.Given as goal

abbrev pub invariant-loop-request : goal.invariant-loop-request
invariant-loop-request l = HasAsked l.fn.talk l.talk l.fn.deeds.items l.deeds.items

-- the words that were not asked for
abbrev pub decreases-loop-request : goal.decreases-loop-request
decreases-loop-request l = length l.talk.asker.words - l.talk.asker.sent
