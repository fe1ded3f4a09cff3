use Rattle.hart_replay.specs.Leading.{IsSoFar}
use Rattle.hart_threads.proofs.replays.replay_legs.Given as goal

abbrev pub invariant-loop-leg : goal.invariant-loop-leg
invariant-loop-leg g l = IsSoFar l.image l.legs l.leg-index l.machine
