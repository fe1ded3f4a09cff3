use Rattle.std.proofs.Common.{◌≡◌, ◌∙◌, List, ap, arith}
use Rattle.ft_types.specs.Counts.{count_at}
use Rattle.hart_replay.specs.declared.plans.PlannedLeg.{PlannedLeg}
use Rattle.plan_lines.specs.Line.{LineView, ends_of}
use Rattle.moments.proofs.Lines.{most_at, all_at}
use Rattle.moments.proofs.timeline.Timeline.end_of.Goals as goal

pub returns-clause-value : goal.returns-clause-value
returns-clause-value c =
    c.end_in.ensures
    ∙ ap (λ (legs : List PlannedLeg). count_at (ends_of legs) c.args.hart) (c.legs.ensures.legs ∙ ap (λ (v : LineView). v.legs) c.self.view_is)

pub returns-clause-most : goal.returns-clause-most
returns-clause-most c moment m at =
    let le = most_at _ _ _ _ _ _ c.self.invariant.0 c.args.self.now c.self.view_is moment m at c.args.hart in
    let is : c.end_in.result ≡ count_at (ends_of c.args.self.now.legs) c.args.hart =
    c.end_in.ensures
    ∙ ap (λ (legs : List PlannedLeg). count_at (ends_of legs) c.args.hart) (c.legs.ensures.legs ∙ ap (λ (v : LineView). v.legs) c.self.view_is) in
    omega (arith, le, is)

pub returns-clause-all : goal.returns-clause-all
returns-clause-all c m at =
    let same = all_at _ _ _ _ _ _ c.self.invariant.0 c.args.self.now c.self.view_is m at c.args.hart in
    let is : c.end_in.result ≡ count_at (ends_of c.args.self.now.legs) c.args.hart =
    c.end_in.ensures
    ∙ ap (λ (legs : List PlannedLeg). count_at (ends_of legs) c.args.hart) (c.legs.ensures.legs ∙ ap (λ (v : LineView). v.legs) c.self.view_is) in
    omega (arith, same, is)
