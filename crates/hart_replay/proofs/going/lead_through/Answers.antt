use Rattle.std.proofs.Common.{◌≡◌, ℕ, arith, subst}
use Rattle.std.proofs.lemmas.Result.{err_from_is_err_and}
use Rattle.hart_replay.specs.machinery.Going.{IsAt}
use Rattle.hart_replay.proofs.Along.{goes_to_next, fails_there}
use Rattle.hart_replay.proofs.going.lead_through.Goals as goal

pub loop-number-preserved : goal.loop-number-preserved
loop-number-preserved c =
    record {
      at =
          goes_to_next c.args._image.now c.args.legs.now c.requires.plan c.loop-number.number c.loop-number.machine c.loop-number.invariant.at
          c.index-legs-number.result (omega (arith, c.loop-number-test.true, c.requires.last)) c.index-legs-number.is c.in_ok-machine.machine
          c.in_ok-machine.ensures.ok;
      within = omega (arith, c.loop-number-test.true);
    }

pub returns-in_err-machine-clause-fault : goal.returns-in_err-machine-clause-fault
returns-in_err-machine-clause-fault c =
    let p = err_from_is_err_and c.from_residual.result c.from_residual.ensures.1 in
    let at =
    fails_there c.args._image.now c.args.legs.now c.requires.plan c.loop-number.number c.loop-number.machine c.loop-number.invariant.at
    c.index-legs-number.result (omega (arith, c.loop-number-test.true, c.requires.last)) c.index-legs-number.is c.in_err-machine.field-0.0 in
    rw (p.1, p.2) (at c.in_err-machine.ensures.fault)

pub returns-clause-ok : goal.returns-clause-ok
returns-clause-ok c =
    let last : c.loop-number.number ≡ c.args.last = omega (arith, c.loop-number-test.false, c.loop-number.invariant.within) in
    subst (λ (n : ℕ). IsAt c.args._image.now c.args.legs.now n c.loop-number.machine) last c.loop-number.invariant.at
