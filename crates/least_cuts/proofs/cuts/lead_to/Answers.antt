use Rattle.std.proofs.Common.{Ok, Err, ap, refl, sym, subst, ◌∙◌}
use Rattle.std.proofs.lemmas.Result.{err_from_is_err_and}
use Rattle.book_modes.specs.declared.mode.Leg.{Leg}
use Rattle.guest_image.specs.Machine.{MachineState}
use Rattle.hart_lease.specs.Runs.{heard_in}
use Rattle.hart_replay.specs.Leading.{AreAtEnds}
use Rattle.hart_replay.proofs.GoingOn.{leads_on, fails_on}
use Rattle.least_cuts.proofs.Trimmed.{come_here}
use Rattle.least_cuts.proofs.cuts.lead_to.Goals as goal

pub returns-clause-ok : goal.returns-clause-ok
returns-clause-ok c =
    let b = c.in_ok-book.book in
    let stopped = c.in_ok-book.ensures in
    let m = c.into_machine.result in
    let same = c.into_machine.ensures.value in
    leads_on c.args.start c.args.leg.now b stopped (heard_in b.mode.inputs) (ap (λ (leg : Leg). heard_in leg.inputs) stopped.leading.mode)
    c.into_machine.ensures.run c.into_machine.ensures.begins m (Ok m) same
    (refl, subst (λ (x : MachineState). AreAtEnds x c.args.leg.now.ends) (c.machine.ensures.value ∙ sym same) c.in_ok-has_come_to.ensures.ok)
    c.args.start (come_here c.args.leg.now c.args.start c.requires.leg c.requires.base)

pub returns-in_err-has_come_to-clause-fault : goal.returns-in_err-has_come_to-clause-fault
returns-in_err-has_come_to-clause-fault c =
    let b = c.in_ok-book.book in
    let stopped = c.in_ok-book.ensures in
    let same = c.machine.ensures.value in
    let fault = c.in_err-has_come_to.field-0.0 in
    let p = err_from_is_err_and c.from_residual-in_err-has_come_to.result c.from_residual-in_err-has_come_to.ensures.1 in
    let fails =
    fails_on c.args.start c.args.leg.now b stopped (heard_in b.mode.inputs) (ap (λ (leg : Leg). heard_in leg.inputs) stopped.leading.mode)
    c.machine.ensures.run c.machine.ensures.begins c.machine.result.now (Err fault) same c.in_err-has_come_to.ensures.fault c.args.start
    (come_here c.args.leg.now c.args.start c.requires.leg c.requires.base) in
    rw (p.1, p.2) fails
