use Rattle.std.proofs.Common.{◌++◌}
use Rattle.std.proofs.lemmas.Result.{err_from_is_err_and}
use Rattle.guest_image.specs.Text.{hart_line, csr_line, device_line, hart_lines}
use Rattle.guest_image.proofs.TextFacts.{then_writes, then_stops}
use Rattle.guest_image.proofs.text.write_hart_lines.Goals as goal

pub returns-in_err-write_hart_line : goal.returns-in_err-write_hart_line
unfolding hart_lines
returns-in_err-write_hart_line g c =
    let p = err_from_is_err_and c.from_residual.result c.from_residual.ensures.1 in
    then_stops g.W.Sink.bytes g.W.Sink.failures c.from_residual.result p.0 c.args.out.now c.write_hart_line.new.out
    (hart_line c.args.hart.now) (csr_line c.args.hart.now ++ (device_line c.args.hart.now)) p.1
    c.in_err-write_hart_line.ensures

pub returns-in_err-write_csr_line : goal.returns-in_err-write_csr_line
unfolding hart_lines
returns-in_err-write_csr_line g c =
    let p = err_from_is_err_and c.from_residual-in_err-write_csr_line.result
    c.from_residual-in_err-write_csr_line.ensures.1 in
    then_writes g.W.Sink.bytes g.W.Sink.failures c.from_residual-in_err-write_csr_line.result c.args.out.now
    c.write_hart_line.new.out c.write_csr_line.new.out (hart_line c.args.hart.now)
    (csr_line c.args.hart.now ++ (device_line c.args.hart.now)) c.in_ok-write_hart_line.ensures
    (then_stops g.W.Sink.bytes g.W.Sink.failures c.from_residual-in_err-write_csr_line.result p.0 c.write_hart_line.new.out c.write_csr_line.new.out
    (csr_line c.args.hart.now) (device_line c.args.hart.now) p.1 c.in_err-write_csr_line.ensures)

pub returns : goal.returns
unfolding hart_lines
returns g c =
    then_writes g.W.Sink.bytes g.W.Sink.failures c.write_device_line.result c.args.out.now c.write_hart_line.new.out
    c.write_device_line.new.out (hart_line c.args.hart.now)
    (csr_line c.args.hart.now ++ (device_line c.args.hart.now)) c.in_ok-write_hart_line.ensures
    (then_writes g.W.Sink.bytes g.W.Sink.failures c.write_device_line.result c.write_hart_line.new.out c.write_csr_line.new.out c.write_device_line.new.out
    (csr_line c.args.hart.now) (device_line c.args.hart.now) c.in_ok-write_csr_line.ensures
    (c.write_device_line.ensures))
