use Rattle.moments.specs.machinery.Machines.{machine_of}
use Rattle.moments.proofs.Jumping.{begun_here}
use Rattle.moments.proofs.timeline.booted.Goals as goal

pub begun-requires : goal.begun-requires
begun-requires c =
    begun_here c.args.image.now c.args.plan.guest c.args.plan.legs c.in_ok-boot.boot (machine_of c.in_ok-machine.machine) c.requires c.in_ok-boot.ensures.machine
    c.in_ok-machine.ensures c.legs-legs.ensures.rules
