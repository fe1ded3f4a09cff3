use Rattle.std.proofs.Common.{List, inl, inr, subst}
use Rattle.std.proofs.lemmas.Result.{err_from_is_err_and}
use Rattle.ft_types.specs.declared.output.Output.{Output}
use Rattle.pair.specs.Warm.{AreMarksOut}
use Rattle.pair.proofs.warm.run_pair_warm.Goals as goal

pub returns-clause-live : goal.returns-clause-live
returns-clause-live g c = record {
  stores = c.in_ok-released.field-0.stores.items;
  all = c.in_ok-released.ensures.stores;
  inside = c.in_ok-released.ensures.inside;
  goes_on = c.in_ok-live.ensures.live;
  replayed = c.in_ok-live.ensures.steps;
}

pub returns-clause-marks : goal.returns-clause-marks
returns-clause-marks g c =
    subst (λ (xs : List Output). AreMarksOut c.in_ok-live.live.marks xs) c.deref.ensures.value (c.knows.ensures.marks c.if-not-knows.false)

pub returns-in_err-released-clause-refused : goal.returns-in_err-released-clause-refused
returns-in_err-released-clause-refused g c =
    let p = err_from_is_err_and c.from_residual.result c.from_residual.ensures.1 in
    rw p.1 (inl p.2)

pub returns-in_err-live-clause-refused : goal.returns-in_err-live-clause-refused
returns-in_err-live-clause-refused g c =
    let p = err_from_is_err_and c.from_residual-in_err-live.result c.from_residual-in_err-live.ensures.1 in
    rw (p.1, p.2) (inr (c.in_ok-released.field-0.stores.items, c.in_ok-released.ensures.stores, c.in_err-live.ensures.refused))
