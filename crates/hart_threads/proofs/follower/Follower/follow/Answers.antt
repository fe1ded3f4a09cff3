use Rattle.std.proofs.Common.{◌≡◌, ◌-◌, List, length, sym, ap, subst, ◌∙◌}
use Rattle.ft_types.specs.Guests.{GuestParts}
use Rattle.edge_log.specs.EdgeLog.{IsLog}
use Rattle.guest_image.specs.Image.{ImageContents, guest_of}
use Rattle.guest_image.specs.Machine.{boot_machine}
use Rattle.hart_replay.specs.declared.plans.PlannedLeg.{PlannedLeg}
use Rattle.hart_replay.specs.Plans.{IsPlan}
use Rattle.hart_replay.specs.machinery.Going.{IsAt}
use Rattle.hart_threads.specs.Following.{FollowerView}
use Rattle.hart_replay.proofs.Along.{boots_at, follows_at}
use Rattle.hart_threads.proofs.follower.Follower.follow.Goals as goal

pub lead_all-requires-clause-at : goal.lead_all-requires-clause-at
lead_all-requires-clause-at c =
    let plan = c.args.plan.now in
    let f = c.args.self.now in
    let planned = c.legs-planned.result.now in
    let same = ap (λ (x : FollowerView). x.image) c.self.view_is in
    subst (λ (i : ImageContents). IsAt i planned (length c.legs.result.now - 1) c.in_ok-machine.machine) (sym same)
    (follows_at f.image f.legs plan.legs c.legs.result.now planned f.machine c.in_ok-machine.machine plan.guest c.legs.ensures.kept
    c.legs-planned.ensures.rules c.requires.guest (c.requires.on c.if-on.true) c.legs.ensures.value c.legs-planned.ensures.legs
    (c.in_ok-machine.ensures ∙ ap (λ (x : FollowerView). x.machine) c.self.view_is) c.index-planned-first.result c.index-planned-first.is
    (subst (λ (l : PlannedLeg). IsLog l.edges.start l.edges.rows) (sym c.index-planned-first.is) c.next-rules.ensures.rules))

pub lead_all-requires-2-clause-at : goal.lead_all-requires-2-clause-at
lead_all-requires-2-clause-at c =
    let plan = c.args.plan.now in
    let f = c.args.self.now in
    let planned = c.legs-planned.result.now in
    let same = ap (λ (x : FollowerView). x.image) c.self.view_is in
    subst (λ (i : ImageContents). IsAt i planned 0 c.in_ok-machine-2.machine) (sym same)
    (boots_at f.image planned
    (subst (λ (legs : List PlannedLeg). IsPlan (guest_of f.image) legs) (sym c.legs-planned.ensures.legs)
    (subst (λ (g : GuestParts). IsPlan g plan.legs) c.requires.guest c.legs-planned.ensures.rules)) c.in_ok-machine-2.machine
    (c.in_ok-machine-2.ensures.machine ∙ ap boot_machine same))
