use Rattle.std.proofs.Common.{◌≡◌, ◌≢◌, take, arith, subst, sym}
use Rattle.std.proofs.lemmas.List.{take_all}
use Rattle.std.proofs.lemmas.List.Elements.{All-more, All-same}
use Rattle.fenced_live.proofs.given.are_to.Goals as goal

pub returns-then-one-term-clause-other : goal.returns-then-one-term-clause-other
returns-then-one-term-clause-other c = λ no.
    let differs = c.if-one-term.true in
    (c.loop-one.one-index, c.one-item.result, omega arith, sym c.one-item.is, λ e. absurd (omega (arith, differs, e)))

pub loop-one-preserved : goal.loop-one-preserved
loop-one-preserved c =
    let agrees = c.if-one-term.false in
    All-more (λ g. g.term ≡ c.args.term) c.args.given.now c.loop-one.one-index c.one-item.result (omega arith) c.loop-one.invariant
    (subst (λ g. g.term ≡ c.args.term) c.one-item.is (omega (arith, agrees)))

pub returns-clause-own : goal.returns-clause-own
returns-clause-own c = λ yes.
    All-same (λ g. g.term ≡ c.args.term) c.args.given.now (take c.loop-one.one-index c.args.given.now)
    (sym (take_all c.loop-one.one-index c.args.given.now (omega arith))) c.loop-one.invariant
