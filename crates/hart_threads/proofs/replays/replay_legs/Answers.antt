use Rattle.std.proofs.lemmas.Result.{err_from_is_err_and}
use Rattle.hart_replay.proofs.walking.Outcomes.{boot_so_far, goes_far, leg_at_fault}
use Rattle.hart_threads.proofs.replays.replay_legs.Goals as goal

pub loop-leg-init : goal.loop-leg-init
loop-leg-init g c = boot_so_far c.args.image.now c.args.legs.now c.in_ok-machine.machine c.requires c.in_ok-machine.ensures.machine

pub loop-leg-preserved : goal.loop-leg-preserved
loop-leg-preserved g c =
    goes_far c.args.image.now c.args.legs.now c.requires c.loop-leg.leg-index c.loop-leg.machine c.loop-leg.invariant c.leg-item.result c.loop-leg-test.true
    c.leg-item.is
    c.in_ok-machine-2.machine c.in_ok-machine-2.ensures.ok

pub returns-in_err-machine-2-clause-fault : goal.returns-in_err-machine-2-clause-fault
returns-in_err-machine-2-clause-fault g c =
    let p = err_from_is_err_and c.from_residual-in_err-machine-2.result c.from_residual-in_err-machine-2.ensures.1 in
    let at =
    leg_at_fault c.args.image.now c.args.legs.now c.requires c.loop-leg.leg-index c.loop-leg.machine c.loop-leg.invariant c.leg-item.result c.loop-leg-test.true
    c.leg-item.is
    c.in_err-machine-2.field-0.0 in
    rw (p.1, p.2) (at c.in_err-machine-2.ensures.fault)
