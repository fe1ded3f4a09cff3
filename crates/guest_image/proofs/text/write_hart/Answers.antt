use Rattle.std.proofs.lemmas.Result.{err_from_is_err_and}
use Rattle.guest_image.specs.Text.{hart_text, hart_lines, hart_tables}
use Rattle.guest_image.proofs.TextFacts.{then_stops}
use Rattle.guest_image.proofs.text.write_hart.Goals as goal

pub returns-in_err-write_hart_lines : goal.returns-in_err-write_hart_lines
unfolding hart_text
returns-in_err-write_hart_lines g c =
    let p = err_from_is_err_and c.from_residual.result c.from_residual.ensures.1 in
    then_stops g.W.Sink.bytes g.W.Sink.failures c.from_residual.result p.0 c.args.out.now c.write_hart_lines.new.out
    (hart_lines c.args.hart.now) (hart_tables c.args.hart.now) p.1 c.in_err-write_hart_lines.ensures
