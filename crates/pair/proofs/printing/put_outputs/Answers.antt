use Rattle.std.proofs.Common.{length, sym, ◌∙◌, ap, arith}
use Rattle.std.specs.List.{flat_map}
use Rattle.std.proofs.lemmas.List.{drop_all}
use Rattle.pair.specs.Printing.{output_line}
use Rattle.pair.proofs.printing.put_outputs.Goals as goal

pub loop-left-init : goal.loop-left-init
loop-left-init c =
    let outputs = c.args.outputs.now in (
      omega arith,
      c.requires.block,
      omega arith,
      omega arith,
      drop_all 4096 c.args.block.now (omega arith)
          ∙ sym (ap (flat_map output_line) (drop_all (length outputs) outputs (omega arith))),
    )
