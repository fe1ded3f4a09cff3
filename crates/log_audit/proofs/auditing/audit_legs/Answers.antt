use Rattle.std.proofs.lemmas.Result.{err_from_is_err_and}
use Rattle.log_audit.proofs.Walking.{booted_so_far, walks_on, faulty_leg}
use Rattle.log_audit.proofs.auditing.audit_legs.Goals as goal

pub loop-leg-init : goal.loop-leg-init
loop-leg-init c = booted_so_far c.args.image.now c.args.legs.now c.in-Ok.machine c.requires c.in-Ok.ensures.machine

pub loop-leg-preserved : goal.loop-leg-preserved
loop-leg-preserved c =
    walks_on c.args.image.now c.args.legs.now c.requires c.loop-leg.leg-index c.loop-leg.machine c.loop-leg.invariant c.leg-item.result c.loop-leg-test.true
    c.leg-item.is c.in_ok-machine.machine c.in_ok-machine.ensures.agrees

pub returns-in_err-machine-clause-fault : goal.returns-in_err-machine-clause-fault
returns-in_err-machine-clause-fault c =
    let p = err_from_is_err_and c.from_residual.result c.from_residual.ensures.1 in
    let at =
    faulty_leg c.args.image.now c.args.legs.now c.requires c.loop-leg.leg-index c.loop-leg.machine c.loop-leg.invariant c.leg-item.result c.loop-leg-test.true
    c.leg-item.is c.in_err-machine.field-0.0 in
    rw (p.1, p.2) (at c.in_err-machine.ensures.fault)
