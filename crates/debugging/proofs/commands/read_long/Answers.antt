use Rattle.std.proofs.Common.{refl}
use Rattle.debugging.proofs.Asking.{long_parts}
use Rattle.debugging.proofs.commands.read_long.Goals as goal

pub returns-then-is-clause-step : goal.returns-then-is-clause-step
returns-then-is-clause-step c = λ named t asks names.
    let p = long_parts c.args.packet.now c.cut.result.0.now c.cut.result.1.now 115 named c.cut.ensures.one c.cut.ensures.all asks in
    c.read_actions.ensures.step p.1.0 named t p.1.1 p.1.2 names

pub returns-then-is-clause-on : goal.returns-then-is-clause-on
returns-then-is-clause-on c = λ named asks.
    let p = long_parts c.args.packet.now c.cut.result.0.now c.cut.result.1.now 99 named c.cut.ensures.one c.cut.ensures.all asks in
    c.read_actions.ensures.on p.1.0 named p.1.1 p.1.2

pub returns-clause-step : goal.returns-clause-step
returns-clause-step c = λ named t asks names.
    let p = long_parts c.args.packet.now c.cut.result.0.now c.cut.result.1.now 115 named c.cut.ensures.one c.cut.ensures.all asks in
    let yes = c.is.ensures.1 p.0 in let no = c.if-is.false in absurd cc

pub returns-clause-on : goal.returns-clause-on
returns-clause-on c = λ named asks.
    let p = long_parts c.args.packet.now c.cut.result.0.now c.cut.result.1.now 99 named c.cut.ensures.one c.cut.ensures.all asks in
    let yes = c.is.ensures.1 p.0 in let no = c.if-is.false in absurd cc
