use Rattle.lease_rounds.specs.Running.{IsIdle}
use Rattle.book_rows.proofs.primaries.steps_of.Given as goal

abbrev pub invariant-loop-number : goal.invariant-loop-number
invariant-loop-number l = IsIdle l.book
