use Rattle.std.proofs.Common.{◌≡◌}
use Rattle.debugging.specs.Queries.{threads_of}
use Rattle.debugging.proofs.queries.threads_text.Given as goal

abbrev pub invariant-loop-number : goal.invariant-loop-number
invariant-loop-number l = l.text.items ≡ threads_of l.number
