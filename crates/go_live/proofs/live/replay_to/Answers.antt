use Rattle.std.proofs.Common.{subst, ap, ◌∙◌}
use Rattle.ft_types.specs.Guests.{GuestParts}
use Rattle.hart_replay.specs.Plans.{IsPlan}
use Rattle.hart_replay.specs.Laws.{ArePlanned}
use Rattle.go_live.proofs.Places.{has_counts, has_harts}
use Rattle.go_live.proofs.live.replay_to.Goals as goal

pub returns-clause-replayed : goal.returns-clause-replayed
returns-clause-replayed c =
    let plan = c.in_ok-plan.ensures in
    let planned : ArePlanned c.args.store.now c.in_ok-position.position c.in_ok-plan.plan.legs =
    record { terms = plan.terms; bases = plan.bases; ends = plan.ends; cuts = plan.cuts; edges = plan.edges; inputs = plan.inputs; marks = plan.marks } in
    record {
      rules = c.guest-rules.ensures.rules;
      is_position = c.in_ok-position.ensures.position;
      legs = c.in_ok-plan.plan.legs;
      planned = planned;
      outcome = c.in_ok-machine.ensures.outcome;
      counts =
          has_counts c.args.image.now c.args.store.now c.in_ok-position.position c.in_ok-plan.plan.legs c.in_ok-machine.machine
          c.guest-rules.ensures.rules c.in_ok-position.ensures.position
          planned
          (subst (λ (guest : GuestParts). IsPlan guest c.in_ok-plan.plan.legs) (plan.guest ∙ c.requires)
          c.legs-planned.ensures.rules)
          c.in_ok-machine.ensures.outcome;
      noted = c.marks.ensures.greatest;
    }

pub returns-clause-harts : goal.returns-clause-harts
returns-clause-harts c = (
  c.in_ok-position.ensures.harts ∙ ap (λ (guest : GuestParts). guest.harts) c.requires,
  has_harts c.args.image.now c.in_ok-plan.plan.legs c.in_ok-machine.machine c.in_ok-machine.ensures.outcome,
)
