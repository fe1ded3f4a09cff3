use Rattle.std.proofs.Common.{◌-◌, length}
use Rattle.client_turns.proofs.Steps.{HasTold}
use Rattle.client_turns.proofs.talking.tell_all.Given as goal

abbrev pub invariant-loop-told : goal.invariant-loop-told
invariant-loop-told l = HasTold l.fn.talk l.talk l.fn.deeds.items l.deeds.items

-- the answers that were not told
abbrev pub decreases-loop-told : goal.decreases-loop-told
decreases-loop-told l = length l.talk.asker.answers - l.talk.told
