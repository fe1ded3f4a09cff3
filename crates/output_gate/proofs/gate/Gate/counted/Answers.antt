use Rattle.std.proofs.Common.{◌∙◌, ap}
use Rattle.output_gate.specs.Gates.{GateView, holder_count}
use Rattle.output_gate.proofs.Members.{members_counted}
use Rattle.output_gate.proofs.gate.Gate.counted.Goals as goal

pub returns-clause-number : goal.returns-clause-number
returns-clause-number c = members_counted c.keepers_counted.result c.self.inside.noted c.args.hart c.args.step c.keepers_counted.ensures ∙
    ap (λ (v : GateView). holder_count v.noted c.args.hart c.args.step) c.self.view_is
