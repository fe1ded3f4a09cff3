use Rattle.std.proofs.Common.{◌≡◌, ◌≢◌, take, arith, subst, sym, ◌∙◌}
use Rattle.std.proofs.lemmas.List.{take_all}
use Rattle.std.proofs.lemmas.List.Elements.{All-nil, All-more, All-map, All-same}
use Rattle.log_join.specs.Stores.{StoreView}
use Rattle.go_live.proofs.Newness.{any_made, differ, agree}
use Rattle.go_live.proofs.quorum.are_of.Goals as goal

pub loop-store-init : goal.loop-store-init
loop-store-init c = All-nil (λ s. s.1.now.guest ≡ c.args.guest.now)

pub returns-then-ne-clause-foreign : goal.returns-then-ne-clause-foreign
returns-then-ne-clause-foreign c = λ no.
    let item = c.loop-store-item.result in
    any_made (λ s. s.1.now) (λ (store : StoreView). store.guest ≢ c.args.guest.now) c.args.stores.now c.loop-store.store-index item (omega arith)
    c.loop-store-item.is
    (λ e. differ c.guest.result c.args.guest.now (sym c.ne.ensures ∙ c.if-ne.true) (c.guest.ensures.guest ∙ e))

pub loop-store-preserved : goal.loop-store-preserved
loop-store-preserved c =
    let item = c.loop-store-item.result in
    All-more (λ s. s.1.now.guest ≡ c.args.guest.now) c.args.stores.now c.loop-store.store-index item (omega arith) c.loop-store.invariant
    (subst (λ s. s.1.now.guest ≡ c.args.guest.now) c.loop-store-item.is
    (sym c.guest.ensures.guest ∙ agree c.guest.result c.args.guest.now (sym c.ne.ensures ∙ c.if-ne.false)))

pub returns-clause-own : goal.returns-clause-own
returns-clause-own c = λ yes.
    All-map (λ (store : StoreView). store.guest ≡ c.args.guest.now) (λ s. s.1.now) c.args.stores.now
    (All-same (λ s. s.1.now.guest ≡ c.args.guest.now) c.args.stores.now (take c.loop-store.store-index c.args.stores.now)
    (sym (take_all c.loop-store.store-index c.args.stores.now (omega arith))) c.loop-store.invariant)
