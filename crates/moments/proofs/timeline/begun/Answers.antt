use Rattle.std.proofs.Common.{◌≤◌, ◌-◌, ◌∙◌, length, ap, sym, subst}
use Rattle.plan_lines.specs.Line.{Standing, steps_of}
use Rattle.moments.specs.machinery.Machines.{standing_of}
use Rattle.moments.proofs.Turns.{quiet_none}
use Rattle.moments.proofs.Jumping.{first_place, timeline_begun}
use Rattle.moments.proofs.timeline.begun.Goals as goal

pub turn-requires-clause-quiet : goal.turn-requires-clause-quiet
turn-requires-clause-quiet c = quiet_none c.legs-2.result.now (standing_of c.in_ok-now.now) c.no_stops-stops.result c.no_stops-stops.ensures

pub turn-requires-clause-place : goal.turn-requires-clause-place
turn-requires-clause-place c =
    rw c.legs-2.ensures.legs (subst (λ (s : Standing). s.place ≤ length c.args.plan.legs - 1) (sym c.in_ok-now.ensures.same)
    (first_place c.args.plan.guest c.args.plan.legs (standing_of c.args.first) c.requires))

pub invariant_of-result : goal.invariant_of-result
invariant_of-result c = (
  rw c.new-3.ensures.items
      (timeline_begun c.args.plan.guest c.args.plan.legs (standing_of c.args.first) (standing_of c.shared.new.snapshot) (standing_of c.in_ok-now.now)
      (standing_of c.turn.new.now) c.turn.new.stops c.requires c.shared.ensures.kept c.in_ok-now.ensures.same
      (rw c.legs-2.ensures.legs at c.turn.ensures.leads) (rw c.legs-2.ensures.legs at c.turn.ensures.place)
      (rw c.legs-2.ensures.legs at c.turn.ensures.turned) (rw c.legs-2.ensures.legs at c.turn.ensures.quiet)),
  c.steps_of-last.ensures ∙ ap steps_of c.legs.ensures.legs,
)
