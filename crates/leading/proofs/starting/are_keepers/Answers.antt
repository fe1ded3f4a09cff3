use Rattle.std.proofs.Common.{◌≡◌, ◌<◌, ◌≤◌, take, arith, subst, sym}
use Rattle.std.proofs.lemmas.List.{take_all}
use Rattle.std.proofs.lemmas.List.Elements.{All-nil, All-more, All-same}
use Rattle.leading.proofs.starting.are_keepers.Goals as goal

pub loop-one-init : goal.loop-one-init
loop-one-init c = All-nil (λ g. g.keeper < c.args.keepers)

pub returns-then-number-keepers-clause-some : goal.returns-then-number-keepers-clause-some
returns-then-number-keepers-clause-some c = λ no.
    let above = c.if-number-keepers.true in
    let is = c.number.ensures.value in
    (c.loop-one.one-index, c.one-item.result, omega arith, sym c.one-item.is, omega (arith, above, is))

pub loop-one-preserved : goal.loop-one-preserved
loop-one-preserved c =
    let below = c.if-number-keepers.false in
    let is = c.number.ensures.value in
    All-more (λ g. g.keeper < c.args.keepers) c.args.given.now c.loop-one.one-index c.one-item.result (omega arith) c.loop-one.invariant
    (subst (λ g. g.keeper < c.args.keepers) c.one-item.is (omega (arith, below, is)))

pub returns-clause-all : goal.returns-clause-all
returns-clause-all c = λ yes.
    All-same (λ g. g.keeper < c.args.keepers) c.args.given.now (take c.loop-one.one-index c.args.given.now)
    (sym (take_all c.loop-one.one-index c.args.given.now (omega arith))) c.loop-one.invariant
