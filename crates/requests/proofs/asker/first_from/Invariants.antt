use Rattle.std.proofs.Common.{◌≤◌}
use Rattle.requests.specs.Asking.{first_open}
use Rattle.requests.proofs.asker.first_from.Given as goal

abbrev pub invariant-loop-number : goal.invariant-loop-number
invariant-loop-number l = l.number ≤ first_open l.answers
