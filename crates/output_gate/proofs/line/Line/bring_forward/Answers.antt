use Rattle.std.proofs.Common.{ap, subst}
use Rattle.output_gate.specs.Gates.{LineView}
use Rattle.output_gate.specs.Orders.{AreInLine}
use Rattle.output_gate.proofs.Gates.{brought}
use Rattle.output_gate.proofs.line.Line.bring_forward.Goals as goal

pub returns-then-self : goal.returns-then-self
returns-then-self c =
    brought c.args.need c.args.noted.now c.args.self.now
    (subst AreInLine (ap (λ (l : LineView). l.waiting) c.self.view_is) (c.self.invariant.1 c.if-self.true))
