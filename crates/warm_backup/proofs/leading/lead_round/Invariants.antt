use Rattle.warm_backup.proofs.Later.{IsRound}
use Rattle.warm_backup.proofs.leading.lead_round.Given as goal

abbrev pub invariant-loop-number : goal.invariant-loop-number
invariant-loop-number l = IsRound l.initial.book l.went l.number l.book
