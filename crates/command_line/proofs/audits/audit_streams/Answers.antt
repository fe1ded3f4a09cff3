use Rattle.std.proofs.Common.{map, ◌∙◌}
use Rattle.std.proofs.lemmas.Result.{err_from_is_err_and, IfErr-weaker}
use Rattle.log_streams.specs.declared.faults.StreamsFault.TheVariants.{Write}
use Rattle.log_streams.proofs.Outcomes.{read_cause}
use Rattle.log_streams.proofs.Writing.{joined_writes, fault_writes}
use Rattle.command_line.specs.declared.faults.CommandFault.TheVariants.{Streams}
use Rattle.command_line.specs.Audits.{IsAuditedOf, IsAudited, IsAuditCauseIn, SaysYes}
use Rattle.command_line.proofs.Audited.{told_once, joined_cause}
use Rattle.command_line.proofs.audits.audit_streams.Goals as goal

pub returns-in_err-store-clause-written : goal.returns-in_err-store-clause-written
returns-in_err-store-clause-written g c =
    let p = err_from_is_err_and c.from_residual.result c.from_residual.ensures.1 in
    rw (p.1, p.2) (fault_writes (Unit {0}) (λ x. Streams x) c.guest.result (map g.R.Source.left c.args.readers.now) (λ streams. SaysYes (IsAudited c.args.image.now streams))
    c.in_err-store.field-0.0 _ _ (told_once c.in_err-store.field-0.0 Write) c.in_err-store.ensures.fault)

pub returns-in_err-store-clause-fault : goal.returns-in_err-store-clause-fault
returns-in_err-store-clause-fault g c =
    let p = err_from_is_err_and c.from_residual.result c.from_residual.ensures.1 in
    rw (p.1, p.2) (read_cause c.args.image.now c.guest.result (map g.R.Source.left c.args.readers.now) c.in_err-store.field-0.0 c.guest.ensures
    c.in_err-store.ensures.fault)

pub write_audited-requires : goal.write_audited-requires
write_audited-requires g c = c.in_ok-store.ensures.guest ∙ c.guest.ensures

pub returns-clause-written : goal.returns-clause-written
returns-clause-written g c =
    joined_writes (Streams Write) c.args.image.now c.guest.result (map g.R.Source.left c.args.readers.now) c.in_ok-store.store
    (SaysYes (IsAuditedOf c.args.image.now c.in_ok-store.store)) (λ streams. SaysYes (IsAudited c.args.image.now streams)) c.write_audited.result _ _ _ _
    c.guest.ensures c.in_ok-store.ensures.ok (λ streams text j s. (s.0, (c.in_ok-store.store, j, s.1), s.2)) c.write_audited.ensures.written

pub returns-clause-fault : goal.returns-clause-fault
returns-clause-fault g c =
    IfErr-weaker c.write_audited.result (IsAuditCauseIn c.args.image.now c.in_ok-store.store) _
    (λ f cause. joined_cause c.args.image.now c.guest.result (map g.R.Source.left c.args.readers.now) c.in_ok-store.store f c.guest.ensures
    c.in_ok-store.ensures.ok cause) c.write_audited.ensures.fault
