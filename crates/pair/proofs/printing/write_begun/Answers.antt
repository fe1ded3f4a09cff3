use Rattle.std.proofs.lemmas.Result.{err_from_is_err_and}
use Rattle.guest_image.specs.Text.{machine_text}
use Rattle.guest_image.proofs.TextFacts.{then_writes, then_stops}
use Rattle.pair.specs.Printing.{live_line}
use Rattle.pair.proofs.printing.write_begun.Goals as goal

pub returns-in_err-write_live : goal.returns-in_err-write_live
returns-in_err-write_live g c =
    let p = err_from_is_err_and c.from_residual.result c.from_residual.ensures.1 in
    then_stops g.W.Sink.bytes g.W.Sink.failures c.from_residual.result p.0 c.args.out.now c.write_live.new.out (live_line c.args.steps)
    (machine_text c.args.machine.now) p.1 c.in_err-write_live.ensures

pub returns : goal.returns
returns g c =
    then_writes g.W.Sink.bytes g.W.Sink.failures c.write_text.result c.args.out.now c.write_live.new.out c.write_text.new.out (live_line c.args.steps)
    (machine_text c.args.machine.now) c.in_ok-write_live.ensures c.write_text.ensures
