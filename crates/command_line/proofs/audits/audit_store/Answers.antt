use Rattle.std.proofs.Common.{◌∙◌}
use Rattle.std.proofs.lemmas.Result.{err_from_is_err_and}
use Rattle.command_line.proofs.Audited.{audit_fault}
use Rattle.command_line.proofs.audits.audit_store.Goals as goal

pub returns-in_err-plan-clause-fault : goal.returns-in_err-plan-clause-fault
returns-in_err-plan-clause-fault c =
    let p = err_from_is_err_and c.from_residual.result c.from_residual.ensures.1 in
    rw (p.1, p.2, c.in_err-plan.ensures.fault) tt

pub returns-in_err-machine-clause-fault : goal.returns-in_err-machine-clause-fault
returns-in_err-machine-clause-fault c =
    let p = err_from_is_err_and c.from_residual-in_err-machine.result c.from_residual-in_err-machine.ensures.1 in
    let own = c.in_ok-plan.ensures.guest ∙ c.requires in
    rw (p.1, p.2) (audit_fault c.args.image.now c.args.store.now c.in_ok-plan.plan.legs c.in_err-machine.field-0.0 c.in_ok-plan.ensures.planned
    (λ is. c.in_err-machine.ensures.other_guest.0 (cc) own) c.in_err-machine.ensures.uncovered c.in_err-machine.ensures.cyclic
    c.in_err-machine.ensures.halted_inside)
