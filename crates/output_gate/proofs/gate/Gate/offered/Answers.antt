use Rattle.std.proofs.Common.{◌<◌, subst}
use Rattle.std.specs.List.{AllByRecursion}
use Rattle.output_gate.specs.Gates.{GateView, fresh_line, mark_at, passed_of}
use Rattle.output_gate.proofs.gate.Gate.offered.Goals as goal

pub returns-clause-passed : goal.returns-clause-passed
returns-clause-passed c hart below =
    subst (λ (v : GateView). AllByRecursion (λ o. o.number < mark_at v hart) (passed_of v hart)) c.self.view_is
    (c.self.invariant.each hart (fresh_line 0) below).passed
