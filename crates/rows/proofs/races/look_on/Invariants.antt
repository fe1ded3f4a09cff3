use Rattle.std.proofs.Common.{◌≡◌}
use Rattle.ack_core.specs.Seats.{term_of, keepers_of, IsGateOf}
use Rattle.output_gate.specs.Looks.{IsSeen}
use Rattle.rows.proofs.races.look_on.Given as goal

abbrev pub invariant-loop : goal.invariant-loop
invariant-loop l = record {
  term : term_of l.board ≡ l.gate.term;
  keepers : keepers_of l.board ≡ l.gate.keepers;
  seat : IsGateOf l.board l.seat;
  seen : IsSeen l.board l.gate l.seat;
}
