use Rattle.std.proofs.Common.{◌≡◌, ℕ, List, sym, subst, arith}
use Rattle.debugging.specs.Asked.{IsAction, IsThread}
use Rattle.debugging.specs.declared.numbers.Thread.{Thread}
use Rattle.debugging.specs.declared.commands.Command.TheVariants as command
use Rattle.debugging.specs.declared.commands.Way.TheVariants as way
use Rattle.debugging.proofs.Asking.{action_parts}
use Rattle.debugging.proofs.commands.read_actions.Goals as goal

pub returns-clause-step : goal.returns-clause-step
returns-clause-step c = λ action named thread first is threads.
    let here : IsAction c.first_action-action.result.now 115 named = subst (λ (t : List ℕ). IsAction t 115 named) (sym (c.first_action-action.ensures action first)) is in
    let parts = action_parts 115 c.first_action-action.result.now c.cut.result.0.now c.cut.result.1.now named (λ (e : 115 ≡ 58). omega (arith, e)) c.cut.ensures.one c.cut.ensures.all here in
    let same = c.read_thread.ensures thread (subst (λ (t : List ℕ). IsThread t thread) (sym parts.1) threads) in
    subst (λ (t : Thread). c.read_action.result ≡ command.Go way.Step t) same (c.read_action.ensures.step parts.0)

pub returns-clause-on : goal.returns-clause-on
returns-clause-on c = λ action named first is.
    let here : IsAction c.first_action-action.result.now 99 named = subst (λ (t : List ℕ). IsAction t 99 named) (sym (c.first_action-action.ensures action first)) is in
    let parts = action_parts 99 c.first_action-action.result.now c.cut.result.0.now c.cut.result.1.now named (λ (e : 99 ≡ 58). omega (arith, e)) c.cut.ensures.one c.cut.ensures.all here in
    c.read_action.ensures.on parts.0
