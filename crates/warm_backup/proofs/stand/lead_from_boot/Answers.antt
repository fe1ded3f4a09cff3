use Rattle.hart_replay.proofs.Along.{boots_at}
use Rattle.warm_backup.proofs.stand.lead_from_boot.Goals as goal

pub lead_legs-requires-clause-at : goal.lead_legs-requires-clause-at
lead_legs-requires-clause-at c =
    boots_at c.args.image.now c.args.legs.now c.requires.plan c.in_ok-machine.machine c.in_ok-machine.ensures.machine
