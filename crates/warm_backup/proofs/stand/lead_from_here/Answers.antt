use Rattle.std.proofs.Common.{length, sym, subst, ◌∙◌}
use Rattle.edge_log.specs.EdgeLog.{IsLog}
use Rattle.guest_image.specs.Machine.{MachineState}
use Rattle.hart_replay.specs.declared.plans.PlannedLeg.{PlannedLeg}
use Rattle.hart_replay.specs.machinery.Going.{IsAt}
use Rattle.warm_backup.proofs.Beginnings.{at_here}
use Rattle.warm_backup.proofs.stand.lead_from_here.Goals as goal

pub lead_legs-requires-clause-at : goal.lead_legs-requires-clause-at
lead_legs-requires-clause-at c =
    let image = c.args.image.now in
    let front = c.args.front.now in
    let legs = c.args.legs.now in
    subst (λ (m : MachineState). IsAt image legs (length front) m) (sym (c.in_ok-machine.ensures ∙ c.machine.ensures))
    (at_here image front c.args.stand.now c.args._position.now.counts legs c.requires.plan c.requires.keeps c.requires.front c.requires.on
    c.index-legs-first.result c.index-legs-first.is
    (subst (λ (l : PlannedLeg). IsLog l.edges.start l.edges.rows) (sym c.index-legs-first.is) c.next-rules.ensures.rules))
