use Rattle.std.proofs.Common.{◌≡◌, List, Vec, Global, ℕ, map, sym, ap, subst, ◌∙◌}
use Rattle.std.proofs.lemmas.Result.{err_from_is_err_and}
use Rattle.log_mending.specs.Mending.{IsWholeLog}
use Rattle.live_world.specs.Renewals.{IsNoNewLog}
use Rattle.live_world.specs.declared.fault.EventFault.{EventFault}
use Rattle.live_world.proofs.renewal.new_log.Goals as goal

pub returns-in_err-logs-clause-refused : goal.returns-in_err-logs-clause-refused
returns-in_err-logs-clause-refused c =
    let e = err_from_is_err_and c.from_residual.result c.from_residual.ensures.1 in
    rw (e.1)
    (subst (λ (f : EventFault). IsNoNewLog c.args.guest c.args.quorum c.args.keeper c.args.term c.args.handed.now c.args.numbers.now f) (sym e.2)
    c.in_err-logs.ensures.refused)

pub returns-in_err-files-clause-refused : goal.returns-in_err-files-clause-refused
returns-in_err-files-clause-refused c =
    let e = err_from_is_err_and c.from_residual-in_err-files.result c.from_residual-in_err-files.ensures.1 in
    let (why, is) = c.in_err-files.ensures.refused in
    rw (e.1)
    (subst (λ (f : EventFault). IsNoNewLog c.args.guest c.args.quorum c.args.keeper c.args.term c.args.handed.now c.args.numbers.now f) (sym (e.2 ∙ is))
    (map (λ log. log.items) c.in_ok-logs.logs.items, c.in_ok-logs.ensures.logs))

pub returns-clause-new : goal.returns-clause-new
returns-clause-new c =
    let (bytes, whole, is) = c.in_ok-files.ensures.filled in (
      map (λ log. log.items) c.in_ok-logs.logs.items,
      c.in_ok-logs.ensures.logs,
      bytes,
      subst (λ (logs : List (Vec ℕ Global)). IsWholeLog c.args.guest (map (λ log. log.items) logs) bytes) c.deref.ensures.value whole,
      is,
    )
