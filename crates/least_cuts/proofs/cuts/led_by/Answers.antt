use Rattle.std.proofs.lemmas.Result.{IfErr-weaker}
use Rattle.std.proofs.Common.{◌≢◌}
use Rattle.hart_replay.specs.declared.fault.ReplayFault.TheVariants.{OtherGuest}
use Rattle.hart_replay.specs.Leading.{IsLegsFault}
use Rattle.hart_replay.proofs.Along.{boots_at}
use Rattle.least_cuts.proofs.Trimmed.{no_guest_fault}
use Rattle.least_cuts.proofs.cuts.led_by.Goals as goal

pub lead_all-requires-clause-at : goal.lead_all-requires-clause-at
lead_all-requires-clause-at c = boots_at c.args.image.now c.args.legs.now c.requires.plan c.in_ok-boot.boot c.in_ok-boot.ensures.machine

pub returns-clause-fault : goal.returns-clause-fault
returns-clause-fault c =
    IfErr-weaker c.lead_all.result (λ f. IsLegsFault c.args.image.now c.args.legs.now f) (λ f. f ≢ OtherGuest)
    (λ f fault. no_guest_fault c.args.image.now c.args.legs.now f fault) c.lead_all.ensures.fault
