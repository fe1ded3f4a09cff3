use Rattle.std.proofs.Common.{◌≡◌, length}
use Rattle.ack_core.specs.Seats.{IsGateOf}
use Rattle.rows.proofs.races.watch.Given as goal

abbrev pub invariant-loop-round : goal.invariant-loop-round
invariant-loop-round l = IsGateOf l.board l.gate × (length l.last ≡ 2)
