use Rattle.std.proofs.Common.{◌≡◌, ◌++◌, length}
use Rattle.std.specs.Vec.Iter.{into_iter_items}
use Rattle.pair.specs.Serving.{AreHad}
use Rattle.pair.proofs.settling.stores_of.Given as goal

abbrev pub invariant-loop-one : goal.invariant-loop-one
invariant-loop-one l = record {
  gate : l.gate ≡ l.fn.gate;
  count : length l.stores.items ≡ length l.yielded;
  had : AreHad l.board l.fn.gate l.stores.items;
  rest : l.yielded ++ into_iter_items l.one-iterator ≡ into_iter_items l.initial.one-iterator;
}
