use Rattle.step_lines.proofs.Joining.{joined}
use Rattle.step_lines.proofs.line.add_step_line.Goals as goal

pub returns : goal.returns
returns c =
    joined c.args.text.now.items _ _ _ _ _ _ _ _ _ _ _ c.in_ok-add_front.ensures c.in_ok-add_inputs.ensures c.in_ok-add_rest.ensures
    c.in_ok-push.ensures.items
