use Rattle.lease_rounds.specs.Leading.{IsIdle}
use Rattle.hart_threads.proofs.together.go_together.Given as goal

abbrev pub invariant-loop : goal.invariant-loop
invariant-loop g l = IsIdle l.book
