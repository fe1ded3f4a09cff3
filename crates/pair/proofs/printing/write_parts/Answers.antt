use Rattle.std.proofs.Common.{◌++◌}
use Rattle.std.specs.List.{flat_map}
use Rattle.std.proofs.lemmas.Result.{err_from_is_err_and}
use Rattle.guest_image.specs.Text.{machine_text}
use Rattle.guest_image.proofs.TextFacts.{then_stops}
use Rattle.pair.specs.Printing.{output_line, kept_line}
use Rattle.pair.proofs.printing.write_parts.Goals as goal

pub returns-in_err-write_outputs : goal.returns-in_err-write_outputs
returns-in_err-write_outputs g c =
    let p = err_from_is_err_and c.from_residual.result c.from_residual.ensures.1 in
    then_stops g.W.Sink.bytes g.W.Sink.failures c.from_residual.result p.0 c.args.out.now c.write_outputs.new.out
    (flat_map output_line c.args.released.now) (kept_line c.args.kept ++ machine_text c.args.machine.now) p.1 c.in_err-write_outputs.ensures
