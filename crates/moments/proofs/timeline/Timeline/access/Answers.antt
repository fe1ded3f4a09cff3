use Rattle.std.proofs.Common.{◌<◌, ap, sym, subst, length, refl}
use Rattle.plan_lines.specs.Line.{LineView}
use Rattle.plan_lines.specs.declared.access.Access.TheVariants.{Nothing}
use Rattle.moments.specs.machinery.Machines.{machine_of}
use Rattle.moments.proofs.Hits.{step_used, uses_same, none_uses}
use Rattle.moments.proofs.timeline.Timeline.access.Goals as goal

pub access_of-requires : goal.access_of-requires
access_of-requires c = subst (λ (v : LineView). c.in-Some.hart < length v.stands.machine.harts) (sym c.self.view_is) c.in-Some.ensures.there

pub returns-in-Some : goal.returns-in-Some
returns-in-Some c =
    record {
      uses =
          uses_same c.args.self.now c.in-Some.hart c.in-Some.ensures.place c.in-Some.ensures.next c.in-Some.ensures.there c.inputs.result.now
          c.inputs.ensures.value (machine_of c.self.inside.stands.machine) (ap (λ (v : LineView). v.stands.machine) c.self.view_is) c.access_of.result
          c.access_of.ensures;
      step = λ some.
          step_used c.args.self.now c.in-Some.hart c.in-Some.ensures.place c.in-Some.ensures.next c.in-Some.ensures.there c.inputs.result.now
          c.inputs.ensures.value (machine_of c.self.inside.stands.machine) (ap (λ (v : LineView). v.stands.machine) c.self.view_is) c.access_of.result
          c.access_of.ensures;
    }

pub returns-in-None : goal.returns-in-None
returns-in-None c =
    record {
      uses = λ h access step. none_uses c.args.self.now c.in-None.ensures.none h access Nothing step;
      step = λ some. absurd (some refl);
    }
