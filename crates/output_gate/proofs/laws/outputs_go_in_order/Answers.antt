use Rattle.std.proofs.Common.{◌++◌}
use Rattle.output_gate.specs.Gates.{passed_of, gone_of, waiting_of}
use Rattle.output_gate.proofs.Gates.{in_line-front, in_line-back, none_before}
use Rattle.output_gate.proofs.laws.outputs_go_in_order.Goals as goal

pub returns-clause-gone : goal.returns-clause-gone
returns-clause-gone c = λ hart below rise. in_line-front (gone_of c.args.gate.now hart) (waiting_of c.args.gate.now hart)
    (in_line-back (passed_of c.args.gate.now hart) (gone_of c.args.gate.now hart ++ waiting_of c.args.gate.now hart)
    ((c.tell_lines.ensures.each hart below).in_line rise))

pub returns-clause-waiting : goal.returns-clause-waiting
returns-clause-waiting c = λ hart below rise. none_before (gone_of c.args.gate.now hart) (waiting_of c.args.gate.now hart)
    (in_line-back (passed_of c.args.gate.now hart) (gone_of c.args.gate.now hart ++ waiting_of c.args.gate.now hart)
    ((c.tell_lines.ensures.each hart below).in_line rise))
