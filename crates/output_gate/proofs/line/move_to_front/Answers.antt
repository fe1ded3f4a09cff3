use Rattle.output_gate.proofs.Moves.{turned}
use Rattle.output_gate.proofs.line.move_to_front.Goals as goal

pub returns : goal.returns
returns c = λ before between rest o is fits many.
    turned c.args.front c.args.place c.args.outputs.now c.rotate_right.new.self before between rest o c.rotate_right.ensures.after is fits many
