use Rattle.std.proofs.Common.{refl, inl, inr}
use Rattle.std.proofs.lemmas.Result.{err_from_is_err_and}
use Rattle.command_line.proofs.Placed.{replay_is_elsewhere, replay_is_unwritten}
use Rattle.command_line.proofs.looking_back.machine_of.Goals as goal

pub returns-in_err-plan-clause-none : goal.returns-in_err-plan-clause-none
returns-in_err-plan-clause-none c =
    let p = err_from_is_err_and c.from_residual.result c.from_residual.ensures.1 in
    rw (p.1, p.2, c.in_err-plan.ensures.fault) tt

pub returns-in_err-plan-clause-unwritten : goal.returns-in_err-plan-clause-unwritten
returns-in_err-plan-clause-unwritten c =
    let p = err_from_is_err_and c.from_residual.result c.from_residual.ensures.1 in
    rw (p.1, p.2, c.in_err-plan.ensures.fault) (λ is. cc)
