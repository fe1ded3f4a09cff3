use Rattle.std.proofs.Common.{sym, subst}
use Rattle.plan_lines.specs.Line.{LineView, InLeg, IsNext}
use Rattle.moments.proofs.timeline.Timeline.forward.Goals as goal

pub take-requires-clause-next : goal.take-requires-clause-next
take-requires-clause-next c =
    subst (λ (v : LineView). InLeg v (λ leg. IsNext leg v.stands.machine c.in-Some.hart)) (sym c.keep.ensures) c.in-Some.ensures.next
