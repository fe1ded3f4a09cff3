use Rattle.log_audit.proofs.Rounds.{HadTurns}
use Rattle.log_audit.proofs.legs.go_round.Given as goal

abbrev pub invariant-loop-number : goal.invariant-loop-number
invariant-loop-number l = HadTurns l.leg l.number l.fn.harts l.turn l.harts
