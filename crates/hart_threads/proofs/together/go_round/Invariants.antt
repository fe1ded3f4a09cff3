use Rattle.lease_rounds.specs.Leading.{IsIdle}
use Rattle.hart_threads.proofs.together.go_round.Given as goal

abbrev pub invariant-loop-number : goal.invariant-loop-number
invariant-loop-number g l = IsIdle l.book
