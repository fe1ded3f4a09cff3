use Rattle.std.proofs.Common.{◌≡◌, ◌≢◌, take, arith, subst, sym, ◌∙◌}
use Rattle.std.proofs.lemmas.List.{take_all}
use Rattle.std.proofs.lemmas.List.Elements.{All-nil, All-more, All-map, All-same}
use Rattle.log_join.specs.Stores.{StoreView}
use Rattle.go_live.proofs.Newness.{any_made, differ, agree}
use Rattle.fenced_live.proofs.given.are_of.Goals as goal

pub loop-one-init : goal.loop-one-init
loop-one-init c = All-nil (λ g. g.store.now.guest ≡ c.args.guest.now)

pub returns-then-ne-clause-foreign : goal.returns-then-ne-clause-foreign
returns-then-ne-clause-foreign c = λ no.
    let item = c.one-item.result in
    any_made (λ g. g.store.now) (λ (store : StoreView). store.guest ≢ c.args.guest.now) c.args.given.now c.loop-one.one-index item (omega arith)
    c.one-item.is
    (λ e. differ c.guest.result c.args.guest.now (sym c.ne.ensures ∙ c.if-ne.true) (c.guest.ensures.guest ∙ e))

pub loop-one-preserved : goal.loop-one-preserved
loop-one-preserved c =
    let item = c.one-item.result in
    All-more (λ g. g.store.now.guest ≡ c.args.guest.now) c.args.given.now c.loop-one.one-index item (omega arith) c.loop-one.invariant
    (subst (λ g. g.store.now.guest ≡ c.args.guest.now) c.one-item.is
    (sym c.guest.ensures.guest ∙ agree c.guest.result c.args.guest.now (sym c.ne.ensures ∙ c.if-ne.false)))

pub returns-clause-own : goal.returns-clause-own
returns-clause-own c = λ yes.
    All-map (λ (store : StoreView). store.guest ≡ c.args.guest.now) (λ g. g.store.now) c.args.given.now
    (All-same (λ g. g.store.now.guest ≡ c.args.guest.now) c.args.given.now (take c.loop-one.one-index c.args.given.now)
    (sym (take_all c.loop-one.one-index c.args.given.now (omega arith))) c.loop-one.invariant)
