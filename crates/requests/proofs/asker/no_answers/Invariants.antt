use Rattle.std.proofs.Common.{◌≡◌, None, replicate}
use Rattle.requests.proofs.asker.no_answers.Given as goal

abbrev pub invariant-loop : goal.invariant-loop
invariant-loop l = l.answers.items ≡ replicate l.counter None
