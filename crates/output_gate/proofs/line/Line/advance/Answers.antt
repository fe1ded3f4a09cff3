use Rattle.std.proofs.Common.{◌+◌, ◌≤◌, length, arith}
use Rattle.output_gate.proofs.Gates.{line_released, released_within, line_still}
use Rattle.output_gate.proofs.line.Line.advance.Goals as goal

pub overflow_add-self : goal.overflow_add-self
overflow_add-self c =
    let within : c.self.inside.released + c.args.held ≤ length c.self.inside.offered.items =
    released_within c.args.need c.args.noted.now c.self.inside.mark c.self.inside.passed.items c.self.inside.released c.args.held c.self.inside.offered.items c.args.self.now c.bring_forward.new.self
    c.self.invariant.0 c.self.view_is c.bring_forward.ensures c.requires in omega arith

pub invariant_of-self : goal.invariant_of-self
invariant_of-self c = (
  released_within c.args.need c.args.noted.now c.self.inside.mark c.self.inside.passed.items c.self.inside.released c.args.held c.self.inside.offered.items c.args.self.now c.bring_forward.new.self
      c.self.invariant.0 c.self.view_is c.bring_forward.ensures c.requires,
  λ rises. line_still c.self.inside.released c.args.held c.self.inside.offered.items (c.self.invariant.1 rises),
  c.self.invariant.2,
  c.self.invariant.3,
)

pub returns : goal.returns
returns c =
    line_released c.args.need c.args.noted.now c.self.inside.mark c.self.inside.passed.items c.self.inside.released c.args.held c.self.inside.offered.items c.args.self.now c.bring_forward.new.self
    c.self.view_is c.bring_forward.ensures c.requires
