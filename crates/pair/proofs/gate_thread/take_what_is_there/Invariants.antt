use Rattle.std.proofs.Common.{◌≡◌}
use Rattle.pair.specs.Exits.{AreLast}
use Rattle.pair.proofs.gate_thread.take_what_is_there.Given as goal

abbrev pub invariant-loop-more : goal.invariant-loop-more
invariant-loop-more g l = AreLast l.gate l.steps × (l.gate ≡ record l.fn.gate { lines = l.gate.lines })
