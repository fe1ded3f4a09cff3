use Rattle.log_audit.proofs.Walking.{IsAuditedSoFar}
use Rattle.log_audit.proofs.auditing.audit_legs.Given as goal

abbrev pub invariant-loop-leg : goal.invariant-loop-leg
invariant-loop-leg l = IsAuditedSoFar l.image l.legs l.leg-index l.machine
