use Rattle.std.proofs.Common.{inr, refl}
use Rattle.command_line.specs.Audits.{IsAuditedOf}
use Rattle.command_line.proofs.Audited.{yes_told, told_cause, fault_unwritten, fault_cause}
use Rattle.command_line.proofs.audits.write_audited.Goals as goal

pub returns-in-Ok-clause-written : goal.returns-in-Ok-clause-written
returns-in-Ok-clause-written g c =
    rw c.written.ensures (yes_told (IsAuditedOf c.args.image.now c.args.store.now) c.in-Ok.machine c.write_yes.result _ _ _ _ c.in-Ok.ensures.ok
    c.write_yes.ensures)

pub returns-in-Ok-clause-fault : goal.returns-in-Ok-clause-fault
returns-in-Ok-clause-fault g c = rw c.written.ensures (told_cause c.args.image.now c.args.store.now c.write_yes.result)

pub returns-in-Err-clause-written : goal.returns-in-Err-clause-written
returns-in-Err-clause-written g c = inr (fault_unwritten c.args.image.now c.args.store.now c.in-Err.fault c.in-Err.ensures.fault, refl, refl)

pub returns-in-Err-clause-fault : goal.returns-in-Err-clause-fault
returns-in-Err-clause-fault g c = fault_cause c.args.image.now c.args.store.now c.in-Err.fault c.in-Err.ensures.fault
