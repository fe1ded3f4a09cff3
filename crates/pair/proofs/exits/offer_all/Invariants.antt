use Rattle.std.proofs.Common.{◌≡◌, ◌++◌}
use Rattle.std.specs.Vec.Iter.{into_iter_items}
use Rattle.pair.specs.Exits.{AreLast, AreTakenIn}
use Rattle.pair.proofs.exits.offer_all.Given as goal

abbrev pub invariant-loop-output : goal.invariant-loop-output
invariant-loop-output l = record {
  taken : AreTakenIn l.fn.gate l.yielded l.gate;
  last : AreLast l.gate l.last;
  lines : l.gate ≡ record l.fn.gate { lines = l.gate.lines };
  rest : l.yielded ++ into_iter_items l.output-iterator ≡ into_iter_items l.initial.output-iterator;
}
