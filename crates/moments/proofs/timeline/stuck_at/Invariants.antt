use Rattle.hart_replay.proofs.rounds.Ends.{Looked}
use Rattle.moments.specs.machinery.Machines.{machine_of}
use Rattle.moments.proofs.timeline.stuck_at.Given as goal

abbrev pub invariant-loop-number : goal.invariant-loop-number
invariant-loop-number l = Looked l.waits l.number (machine_of l.machine) l.leg.ends
