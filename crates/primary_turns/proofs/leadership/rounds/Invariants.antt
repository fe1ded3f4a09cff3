use Rattle.primary_turns.specs.Turns.{Rounds}
use Rattle.primary_turns.proofs.leadership.rounds.Given as goal

abbrev pub invariant-loop-more : goal.invariant-loop-more
invariant-loop-more l = Rounds l.fn.leader l.leader
