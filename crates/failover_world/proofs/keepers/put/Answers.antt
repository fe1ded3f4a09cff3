use Rattle.std.proofs.Common.{◌≡◌, slice_set, get_or, Some, None, sym, ap, subst, ◌∙◌}
use Rattle.log_join.specs.Stores.{StoreView, IsJoin, alone}
use Rattle.failover_world.proofs.Rows.{set_set, whatever}
use Rattle.primary.proofs.Rows.{same_some}
use Rattle.failover_world.proofs.keepers.put.Goals as goal

pub returns-clause-joined : goal.returns-clause-joined
returns-clause-joined c = λ s is.
    let at : c.index-stores-index.result ≡ get_or c.args.stores.now c.args.keeper None =
    c.index-stores-index.is
    ∙ ap (λ k. get_or c.args.stores.now k c.index-stores-index.result) c.index.ensures.value
    ∙ whatever c.args.stores.now c.args.keeper c.index-stores-index.result None c.requires.below in
    let there : get_or c.args.stores.now c.args.keeper None ≡ Some c.in-Some.store = sym at ∙ c.index-stores-index.is ∙ sym c.take-taken.ensures.value ∙ c.in-Some.is in
    let same : c.in-Some.store ≡ s = same_some c.in-Some.store s (sym there ∙ is) in (
      c.put-answer.new.self,
      subst (λ (x : StoreView). IsJoin x (alone c.args.frame) c.put-answer.new.self) same
          (c.in_ok-_put.ensures.joined (λ e. c.requires.own c.in-Some.store there (sym c.in_ok-_put.ensures.answer ∙ e))),
      ap (λ k. slice_set (slice_set c.args.stores.now c.index.result c.take-taken.new.self) k (Some c.put-answer.new.self))
          (c.index-2.ensures.value ∙ sym c.index.ensures.value)
          ∙ set_set c.args.stores.now c.index.result c.take-taken.new.self (Some c.put-answer.new.self)
          ∙ ap (λ k. slice_set c.args.stores.now k (Some c.put-answer.new.self)) c.index.ensures.value,
    )
