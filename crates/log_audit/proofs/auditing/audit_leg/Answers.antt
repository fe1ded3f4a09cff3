use Rattle.std.proofs.Common.{subst}
use Rattle.log_audit.specs.declared.legs.Ended.{Ended}
use Rattle.log_audit.specs.machinery.Turns.{Ends}
use Rattle.log_audit.proofs.Ending.{ends_agree, ends_short}
use Rattle.log_audit.proofs.auditing.audit_leg.Goals as goal

pub run_leg-requires-clause-rules : goal.run_leg-requires-clause-rules
run_leg-requires-clause-rules c = c.at-rules.ensures.rules

pub returns-in-Ok-clause-agrees : goal.returns-in-Ok-clause-agrees
returns-in-Ok-clause-agrees c =
    ends_agree c.args.leg.now c.args.start c.in-Ok-Stopped.machine c.requires.leg c.requires.base
    (subst (λ (e : Ended). Ends c.args.leg.now c.args.start e) c.in-Ok-Stopped.field-0-is c.in-Ok-Stopped.ensures)
    c.at-rules.ensures.rules.own c.in-Ok.end c.in-Ok.ensures.ok

pub returns-in-Err-come_to-clause-fault : goal.returns-in-Err-come_to-clause-fault
returns-in-Err-come_to-clause-fault c =
    ends_short c.args.leg.now c.args.start c.in-Ok-Stopped.machine c.requires.leg c.requires.base
    (subst (λ (e : Ended). Ends c.args.leg.now c.args.start e) c.in-Ok-Stopped.field-0-is c.in-Ok-Stopped.ensures)
    c.in-Err-come_to.fault c.in-Err-come_to.ensures.fault
