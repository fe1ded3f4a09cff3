use Rattle.std.proofs.Common.{Ok, Err, sym, ap, subst}
use Rattle.std.proofs.lemmas.Result.{err_from_is_err_and}
use Rattle.guest_image.specs.Image.{ImageContents}
use Rattle.hart_replay.specs.Replays.{IsOutcome}
use Rattle.hart_replay.proofs.honesty.Replays.{replays_history}
use Rattle.hart_threads.specs.Following.{FollowerView}
use Rattle.hart_threads.proofs.follower.Follower.advance.Goals as goal

pub returns-in_err-machine-clause-history : goal.returns-in_err-machine-clause-history
returns-in_err-machine-clause-history c =
    let p = err_from_is_err_and c.from_residual-in_err-machine.result c.from_residual-in_err-machine.ensures.1 in
    λ history rules honest.
    let fails =
    replays_history c.args.self.now.image c.in_ok-end.plan.legs (Err c.in_err-machine.field-0.0) tt c.in_err-machine.ensures.fault history
    c.args.store.now c.in_ok-end.end rules honest c.in_ok-end.ensures.planned in
    rw (p.1, p.2) fails

pub returns-clause-history : goal.returns-clause-history
returns-clause-history c =
    let same = ap (λ (x : FollowerView). x.image) c.self.view_is in
    λ history rules honest. replays_history c.self.inside.image c.in_ok-end.plan.legs (Ok c.in_ok-machine.machine)
    (subst (λ (i : ImageContents). IsOutcome i c.in_ok-end.plan.legs c.in_ok-machine.machine) (sym same) c.in_ok-machine.ensures.ok) tt history
    c.args.store.now c.in_ok-end.end rules honest c.in_ok-end.ensures.planned
