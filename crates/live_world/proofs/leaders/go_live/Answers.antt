use Rattle.std.proofs.Common.{sym, subst}
use Rattle.std.proofs.lemmas.Result.{err_from_is_err_and}
use Rattle.live_world.specs.Grants.{IsNotLive}
use Rattle.live_world.proofs.leaders.go_live.Goals as goal

pub returns-in_err-logs-clause-refused : goal.returns-in_err-logs-clause-refused
returns-in_err-logs-clause-refused c =
    let e = err_from_is_err_and c.from_residual.result c.from_residual.ensures.1 in
    rw (e.1)
    (subst (λ f. IsNotLive c.args.image.now c.args.quorum c.args.term c.args.handed.now c.args.numbers.now f) (sym e.2)
    (c.in_err-logs.ensures.refused c.args.image.now c.args.quorum c.args.term (sym c.guest.ensures)))
