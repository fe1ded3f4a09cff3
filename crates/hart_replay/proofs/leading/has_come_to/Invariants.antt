use Rattle.hart_replay.proofs.rounds.Ends.{Looked}
use Rattle.hart_replay.proofs.leading.has_come_to.Given as goal

abbrev pub invariant-loop-number : goal.invariant-loop-number
invariant-loop-number l = Looked l.waits l.number l.machine l.ends
