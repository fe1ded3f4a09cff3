use Rattle.std.proofs.lemmas.Result.{err_from_is_err_and}
use Rattle.guest_image.specs.Text.{numbered, count_line, rung_name, heard_name, bell_lines}
use Rattle.guest_image.proofs.TextFacts.{then_stops}
use Rattle.guest_image.proofs.text.write_bell_lines.Goals as goal

pub returns-in_err-write_hart_rung : goal.returns-in_err-write_hart_rung
unfolding bell_lines
returns-in_err-write_hart_rung g c =
    let p = err_from_is_err_and c.from_residual.result c.from_residual.ensures.1 in
    then_stops g.W.Sink.bytes g.W.Sink.failures c.from_residual.result p.0 c.args.out.now c.write_hart_rung.new.out
    (numbered (count_line rung_name) 0 c.args.hart.now.rung)
    (numbered (count_line heard_name) 0 c.args.hart.now.received.heard) p.1 c.in_err-write_hart_rung.ensures
