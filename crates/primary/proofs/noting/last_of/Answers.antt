use Rattle.std.proofs.Common.{◌<◌, length, refl, ap, sym, ◌∙◌, arith}
use Rattle.primary.specs.Noting.{last_of}
use Rattle.primary.proofs.Rows.{take_all}
use Rattle.primary.proofs.Last.{own_taken, other_taken, if_some, if_none}
use Rattle.primary.proofs.noting.last_of.Goals as goal
use Rattle.primary.proofs.noting.last_of.Goals.{then-eq, else-eq}

pub loop-output-init : goal.loop-output-init
loop-output-init c = refl

pub loop-output-preserved : goal.loop-output-preserved
loop-output-preserved c =
    let given = c.args.given.now in
    let i = c.loop-output.output-index in
    let o = c.output-item.result in
    let below : i < length given = omega arith in
    elim c.if-eq.branch [
      | then-eq w ↦ w.last-is ∙ sym (own_taken c.args.hart given i o below c.output-item.is (sym c.eq.ensures ∙ w.if-eq.true))
      | else-eq w ↦
          w.last-is ∙ c.loop-output.invariant
          ∙ sym (other_taken c.args.hart given i o below c.output-item.is (sym c.eq.ensures ∙ w.if-eq.false))
    ]

pub returns-clause-value : goal.returns-clause-value
returns-clause-value c =
    let over = c.loop-output-test.false in
    c.loop-output.invariant ∙ ap (last_of c.args.hart) (take_all c.args.given.now c.loop-output.output-index (omega (arith, over)))

pub returns-clause-some : goal.returns-clause-some
returns-clause-some c =
    let over = c.loop-output-test.false in
    if_some c.loop-output.last (last_of c.args.hart c.args.given.now)
    (c.loop-output.invariant ∙ ap (last_of c.args.hart) (take_all c.args.given.now c.loop-output.output-index (omega (arith, over))))

pub returns-clause-none : goal.returns-clause-none
returns-clause-none c =
    let over = c.loop-output-test.false in
    if_none c.loop-output.last (last_of c.args.hart c.args.given.now)
    (c.loop-output.invariant ∙ ap (last_of c.args.hart) (take_all c.args.given.now c.loop-output.output-index (omega (arith, over))))
