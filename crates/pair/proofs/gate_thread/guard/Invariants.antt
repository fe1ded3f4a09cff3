use Rattle.std.proofs.Common.{◌≡◌}
use Rattle.std.specs.List.{AllByRecursion}
use Rattle.pair.specs.Exits.{AreLast, IsAtBoard}
use Rattle.pair.specs.Serving.{IsHeard}
use Rattle.pair.proofs.gate_thread.guard.Given as goal

abbrev pub invariant-loop : goal.invariant-loop
invariant-loop g l = record {
  place : IsAtBoard l.board l.gate l.seat;
  last : AreLast l.gate l.last;
  need : l.gate.need ≡ l.fn.watch.gate.need;
  heard : AllByRecursion (IsHeard l.board l.seat l.fn.watch.gate.need) l.released.items;
}
