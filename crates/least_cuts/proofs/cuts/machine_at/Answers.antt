use Rattle.std.proofs.Common.{◌≡◌, ℕ, List, Contains, inr, sym, subst, arith}
use Rattle.ft_types.specs.Counts.{count_at}
use Rattle.hart_replay.specs.declared.plans.PlannedLeg.{PlannedLeg}
use Rattle.hart_replay.specs.Plans.{IsPlan, log_of}
use Rattle.interleaving.specs.Log.{IsCut}
use Rattle.log_audit.proofs.Lists.{get_at}
use Rattle.least_cuts.proofs.Legs.{one_leg}
use Rattle.least_cuts.specs.Cuts.{IsLeastMachine}
use Rattle.least_cuts.proofs.LegsWith.{base_below, least_at, none_at, none_of_legs}
use Rattle.least_cuts.proofs.Trimmed.{least_machine}
use Rattle.least_cuts.proofs.cuts.machine_at.Goals as goal

pub least_cut-cut-requires-clause-from : goal.least_cut-cut-requires-clause-from
least_cut-cut-requires-clause-from c =
    let legs = c.legs-legs.result.now in
    let number = c.in-Some.number in
    let leg = c.index-legs-number.result in
    let at = get_at legs number leg c.index-legs-number.is c.in-Some.ensures.there in
    let plan = subst (λ (l : List PlannedLeg). IsPlan c.args.plan.now.guest l) (sym c.legs-legs.ensures.legs) c.legs-legs.ensures.rules in
    base_below (λ (hart : ℕ). 0) legs c.args.hart c.args.count number leg plan.on (omega arith) c.in-Some.ensures.first at

pub least_cut-cut-requires-clause-end : goal.least_cut-cut-requires-clause-end
least_cut-cut-requires-clause-end c =
    let leg = c.index-legs-number.result in
    c.in-Some.ensures.some leg (get_at c.legs-legs.result.now c.in-Some.number leg c.index-legs-number.is c.in-Some.ensures.there)

pub returns-then-get-count-clause-none : goal.returns-then-get-count-clause-none
returns-then-get-count-clause-none c other cut has there =
    let shown = c.legs-legs.result.now in
    let number = c.in-Some.number in
    let leg = c.index-legs-number.result in
    let found = get_at shown number leg c.index-legs-number.is c.in-Some.ensures.there in
    subst
    (λ (legs : List PlannedLeg). IsPlan c.args.plan.now.guest legs → Contains legs other → ⊥)
    c.legs-legs.ensures.legs
    (λ plan among.
    none_of_legs c.args.plan.now.guest.harts (λ (hart : ℕ). 0) shown c.args.hart c.args.count number leg plan.each plan.on c.in-Some.ensures.first found
    (c.in-Some.ensures.some leg found)
    (none_at leg c.args.hart c.args.count c.least_cut-cut.result c.least_cut-cut.ensures (rw c.get.ensures.value at c.if-get-count.true))
    other cut among there)
    c.legs-legs.ensures.rules has

pub machine_in-requires-clause-cut : goal.machine_in-requires-clause-cut
machine_in-requires-clause-cut c other at =
    let legs = c.legs-legs.result.now in
    let number = c.in-Some.number in
    let leg = c.index-legs-number.result in
    let found = get_at legs number leg c.index-legs-number.is c.in-Some.ensures.there in
    subst (λ (l : PlannedLeg). IsCut (log_of l) (count_at c.least_cut-cut.result)) (one_leg legs number leg other found at) c.least_cut-cut.ensures.cut

pub returns-clause-least : goal.returns-clause-least
returns-clause-least c =
    let shown = c.legs-legs.result.now in
    let number = c.in-Some.number in
    let leg = c.index-legs-number.result in
    let found = get_at shown number leg c.index-legs-number.is c.in-Some.ensures.there in
    let cut = c.least_cut-cut.result in
    let is : count_at cut c.args.hart ≡ c.args.count = rw (← c.get.ensures.value) c.if-get-count.false in
    subst (λ (legs : List PlannedLeg). IsLeastMachine c.args.image.now legs c.args.hart c.args.count c.in_ok-machine_in.field-0) c.legs-legs.ensures.legs
    (inr (least_machine c.args.image.now shown number leg found c.args.hart c.args.count cut c.in-Some.ensures.first
    (least_at leg c.args.hart c.args.count cut c.least_cut-cut.ensures is) c.in_ok-machine_in.field-0
    (c.in_ok-machine_in.ensures.ok leg found)))
