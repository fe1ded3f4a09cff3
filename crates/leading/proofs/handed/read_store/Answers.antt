use Rattle.std.proofs.Common.{subst}
use Rattle.stations.specs.Logs.{IsFrontOf}
use Rattle.leading.proofs.Gathering.{front_fault}
use Rattle.leading.proofs.handed.read_store.Goals as goal

pub returns-in-Some-clause-fault : goal.returns-in-Some-clause-fault
returns-in-Some-clause-fault c =
    front_fault c.args.guest c.args.bytes.now c.in_ok-frames.field-0.frames.items c.in_ok-frames.field-0.size c.in-Some.fault
    (subst (λ f. IsFrontOf c.args.bytes.now c.in_ok-frames.field-0.frames.items c.in_ok-frames.field-0.size f) c.in-Some.is c.in_ok-frames.ensures.front)
