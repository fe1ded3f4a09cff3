use Rattle.ack_core.specs.Seats.{IsKeeperOf}
use Rattle.rows.proofs.races.acknowledge.Given as goal

abbrev pub invariant-loop-round : goal.invariant-loop-round
invariant-loop-round l = IsKeeperOf l.board l.seat
