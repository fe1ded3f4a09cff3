use Rattle.std.proofs.Common.{◌≡◌, ◌++◌}
use Rattle.std.specs.Vec.Iter.{into_iter_items}
use Rattle.pair.specs.Keeping.{AreTaken}
use Rattle.pair.proofs.keeping.take_all.Given as goal

abbrev pub invariant-loop-frame : goal.invariant-loop-frame
invariant-loop-frame l = record {
  taken : AreTaken l.fn.store l.yielded l.store;
  guest : l.store.guest ≡ l.fn.store.guest;
  rest : l.yielded ++ into_iter_items l.frame-iterator ≡ into_iter_items l.initial.frame-iterator;
}
