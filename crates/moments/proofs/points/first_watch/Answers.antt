use Rattle.std.proofs.Common.{true≢false, sym, ◌∙◌}
use Rattle.moments.specs.declared.points.Point.{Point}
use Rattle.moments.specs.Points.{Watches}
use Rattle.moments.proofs.Picking.{none_more, none_of_all}
use Rattle.moments.proofs.points.first_watch.Goals as goal

pub loop-number-preserved : goal.loop-number-preserved
loop-number-preserved c =
    none_more (λ (p : Point). Watches p c.args.access) c.args.points.now c.loop-number.number _ c.loop-number-test.true
    (λ holds. true≢false (sym (c.watches.ensures.1 holds) ∙ c.if-watches.false)) c.loop-number.invariant

pub returns-clause-none : goal.returns-clause-none
returns-clause-none c = none_of_all (λ (p : Point). Watches p c.args.access) c.args.points.now c.loop-number.number c.loop-number-test.false c.loop-number.invariant
