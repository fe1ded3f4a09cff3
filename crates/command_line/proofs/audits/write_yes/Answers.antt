use Rattle.std.specs.Prelude.{codes}
use Rattle.std.proofs.lemmas.Result.{err_from_is_err_and}
use Rattle.ft_types.specs.Text.{line}
use Rattle.guest_image.specs.Text.{machine_text}
use Rattle.guest_image.proofs.TextFacts.{then_writes, then_stops}
use Rattle.command_line.proofs.audits.write_yes.Goals as goal

pub returns-in_err-write_all : goal.returns-in_err-write_all
returns-in_err-write_all g c =
    let p = err_from_is_err_and c.from_residual.result c.from_residual.ensures.1 in
    then_stops g.W.Sink.bytes g.W.Sink.failures c.from_residual.result p.0 c.args.out.now c.write_all.new.out (line (codes "audit yes"))
    (machine_text c.args.machine.now) p.1 c.in_err-write_all.ensures

pub returns : goal.returns
returns g c =
    then_writes g.W.Sink.bytes g.W.Sink.failures c.write_text.result c.args.out.now c.write_all.new.out c.write_text.new.out (line (codes "audit yes"))
    (machine_text c.args.machine.now) c.in_ok-write_all.ensures c.write_text.ensures
