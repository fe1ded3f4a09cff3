use Rattle.std.proofs.Common.{◌++◌, drop}
use Rattle.std.proofs.lemmas.Result.{err_from_is_err_and}
use Rattle.guest_image.specs.Text.{numbered, register_line, output_line, bell_lines, hart_tables}
use Rattle.guest_image.proofs.TextFacts.{then_writes, then_stops}
use Rattle.guest_image.proofs.text.write_hart_tables.Goals as goal

pub returns-in_err-write_hart_registers : goal.returns-in_err-write_hart_registers
unfolding hart_tables
returns-in_err-write_hart_registers g c =
    let p = err_from_is_err_and c.from_residual.result c.from_residual.ensures.1 in
    then_stops g.W.Sink.bytes g.W.Sink.failures c.from_residual.result p.0 c.args.out.now
    c.write_hart_registers.new.out (numbered register_line 1 (drop 1 c.args.hart.now.registers))
    (numbered output_line 0 c.args.hart.now.outputs ++ (bell_lines c.args.hart.now)) p.1
    c.in_err-write_hart_registers.ensures

pub returns-in_err-write_hart_outputs : goal.returns-in_err-write_hart_outputs
unfolding hart_tables
returns-in_err-write_hart_outputs g c =
    let p = err_from_is_err_and c.from_residual-in_err-write_hart_outputs.result
    c.from_residual-in_err-write_hart_outputs.ensures.1 in
    then_writes g.W.Sink.bytes g.W.Sink.failures c.from_residual-in_err-write_hart_outputs.result c.args.out.now
    c.write_hart_registers.new.out c.write_hart_outputs.new.out
    (numbered register_line 1 (drop 1 c.args.hart.now.registers))
    (numbered output_line 0 c.args.hart.now.outputs ++ (bell_lines c.args.hart.now))
    c.in_ok-write_hart_registers.ensures
    (then_stops g.W.Sink.bytes g.W.Sink.failures c.from_residual-in_err-write_hart_outputs.result p.0 c.write_hart_registers.new.out
    c.write_hart_outputs.new.out (numbered output_line 0 c.args.hart.now.outputs) (bell_lines c.args.hart.now) p.1 c.in_err-write_hart_outputs.ensures)

pub returns : goal.returns
unfolding hart_tables
returns g c =
    then_writes g.W.Sink.bytes g.W.Sink.failures c.write_bell_lines.result c.args.out.now
    c.write_hart_registers.new.out c.write_bell_lines.new.out
    (numbered register_line 1 (drop 1 c.args.hart.now.registers))
    (numbered output_line 0 c.args.hart.now.outputs ++ (bell_lines c.args.hart.now))
    c.in_ok-write_hart_registers.ensures
    (then_writes g.W.Sink.bytes g.W.Sink.failures c.write_bell_lines.result c.write_hart_registers.new.out c.write_hart_outputs.new.out
    c.write_bell_lines.new.out (numbered output_line 0 c.args.hart.now.outputs) (bell_lines c.args.hart.now) c.in_ok-write_hart_outputs.ensures
    (c.write_bell_lines.ensures))
