use Rattle.std.proofs.Common.{◌+◌, length, sym, refl, ◌∙◌, ap, arith}
use Rattle.std.proofs.lemmas.List.{drop_all}
use Rattle.guest_image.specs.Text.{numbered, output_line}
use Rattle.guest_image.proofs.text.put_outputs.Goals as goal

pub loop-left-init : goal.loop-left-init
loop-left-init c =
    let outputs = c.args.outputs.now in (
      omega arith,
      refl,
      c.requires.block,
      omega arith,
      omega arith,
      c.requires.fronts,
      drop_all 20480 c.args.block.now (omega arith)
          ∙ sym (ap (numbered output_line (c.args.first + length outputs)) (drop_all (length outputs) outputs (omega arith))),
    )
