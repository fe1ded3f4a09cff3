use Rattle.std.proofs.Common.{◌≡◌, ◌≢◌, ◌∷◌, ◌++◌, [], Some, take, slice_get, sym, subst, ap, ◌∙◌, length}
use Rattle.std.proofs.lemmas.Result.{IfOk-weaker, IfErr-weaker}
use Rattle.ft_types.specs.Counts.{count_at}
use Rattle.guest_image.specs.Image.{guest_of}
use Rattle.hart_replay.specs.declared.plans.PlannedLeg.{PlannedLeg}
use Rattle.hart_replay.specs.declared.fault.ReplayFault.TheVariants.{OtherGuest}
use Rattle.hart_replay.specs.Plans.{IsLeg}
use Rattle.hart_replay.specs.Replays.{LegLeads, IsOutcome}
use Rattle.hart_replay.specs.Leading.{IsLegFault}
use Rattle.log_audit.proofs.Lists.{get_at}
use Rattle.least_cuts.proofs.Legs.{one_leg}
use Rattle.least_cuts.specs.Cuts.{leg_to}
use Rattle.least_cuts.proofs.Trimmed.{front_plan, is_trimmed, based, led_to, no_leg_fault}
use Rattle.least_cuts.proofs.cuts.machine_in.Goals as goal

pub led_by-requires : goal.led_by-requires
led_by-requires c = record { plan = front_plan (guest_of c.args.image.now) c.args.legs.now c.args.number c.requires.plan }

pub lead_to-requires-clause-leg : goal.lead_to-requires-clause-leg
lead_to-requires-clause-leg c =
    let legs = c.args.legs.now in
    let number = c.args.number in
    let start = c.in_ok-start.start in
    let leg = c.index-legs-number.result in
    let at = get_at legs number leg c.index-legs-number.is c.requires.number in
    subst (λ (made : PlannedLeg). IsLeg (length start.harts) made) (sym c.in_ok-trimmed.ensures)
    (is_trimmed c.args.image.now legs c.requires.plan number start c.in_ok-start.ensures.ok leg at c.args.cut (c.requires.cut leg at))

pub lead_to-requires-clause-base : goal.lead_to-requires-clause-base
lead_to-requires-clause-base c hart =
    let legs = c.args.legs.now in
    let number = c.args.number in
    let start = c.in_ok-start.start in
    let leg = c.index-legs-number.result in
    let at = get_at legs number leg c.index-legs-number.is c.requires.number in
    ap (λ (made : PlannedLeg). count_at made.base hart) c.in_ok-trimmed.ensures
    ∙ based c.args.image.now legs c.requires.plan number start c.in_ok-start.ensures.ok leg at hart

pub returns-clause-ok : goal.returns-clause-ok
returns-clause-ok c =
    let legs = c.args.legs.now in
    let number = c.args.number in
    let start = c.in_ok-start.start in
    let was = c.index-legs-number.result in
    let there = get_at legs number was c.index-legs-number.is c.requires.number in
    IfOk-weaker c.lead_to.result (λ m. LegLeads c.in_ok-trimmed.trimmed start m)
    (λ m. (leg : PlannedLeg) → slice_get legs number ≡ Some leg → IsOutcome c.args.image.now (take number legs ++ leg_to leg c.args.cut ∷ []) m)
    (λ m leads leg at.
    led_to c.args.image.now legs c.requires.plan number start c.in_ok-start.ensures.ok leg at c.args.cut m
    (subst (λ (made : PlannedLeg). LegLeads made start m)
    (c.in_ok-trimmed.ensures ∙ ap (λ (l : PlannedLeg). leg_to l c.args.cut) (one_leg legs number was leg there at)) leads))
    c.lead_to.ensures.ok

pub returns-clause-fault : goal.returns-clause-fault
returns-clause-fault c =
    IfErr-weaker c.lead_to.result (λ f. IsLegFault c.in_ok-trimmed.trimmed c.in_ok-start.start f) (λ f. f ≢ OtherGuest)
    (λ f fault. no_leg_fault c.in_ok-trimmed.trimmed c.in_ok-start.start f fault) c.lead_to.ensures.fault
