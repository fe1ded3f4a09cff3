use Rattle.std.proofs.Common.{arith, ◌+◌, drop, get_or}
use Rattle.std.proofs.lemmas.Result.{err_from_is_err_and}
use Rattle.guest_image.specs.Text.{numbered, register_line}
use Rattle.guest_image.proofs.TextFacts.{goes_on, stops, numbered_at}
use Rattle.guest_image.proofs.text.write_registers.Goals as goal

pub returns-in_err-write_register : goal.returns-in_err-write_register
returns-in_err-write_register g c =
    let p = err_from_is_err_and c.from_residual.result c.from_residual.ensures.1 in
    stops g.W.Sink.bytes g.W.Sink.failures c.from_residual.result p.0 c.args.out.now c.loop-i.out
    c.write_register.new.out (numbered register_line c.args.first c.args.values.now)
    (numbered register_line (c.args.first + c.loop-i.i) (drop c.loop-i.i c.args.values.now))
    (register_line (c.args.first + c.loop-i.i) (get_or c.args.values.now c.loop-i.i 0))
    (numbered register_line (c.args.first + (c.loop-i.i + 1)) (drop (c.loop-i.i + 1) c.args.values.now)) p.1
    (numbered_at register_line (c.args.first + c.loop-i.i) (c.args.first + (c.loop-i.i + 1)) c.loop-i.i c.args.values.now 0 (omega arith) c.loop-i-test.true)
    c.loop-i.invariant c.in_err-write_register.ensures

pub loop-i-preserved : goal.loop-i-preserved
loop-i-preserved g c = goes_on g.W.Sink.bytes g.W.Sink.failures c.args.out.now c.loop-i.out c.write_register.new.out
    (numbered register_line c.args.first c.args.values.now)
    (numbered register_line (c.args.first + c.loop-i.i) (drop c.loop-i.i c.args.values.now))
    (register_line (c.args.first + c.loop-i.i) (get_or c.args.values.now c.loop-i.i 0))
    (numbered register_line (c.args.first + (c.loop-i.i + 1)) (drop (c.loop-i.i + 1) c.args.values.now))
    (numbered_at register_line (c.args.first + c.loop-i.i) (c.args.first + (c.loop-i.i + 1)) c.loop-i.i c.args.values.now 0 (omega arith) c.loop-i-test.true)
    c.loop-i.invariant c.in_ok-write_register.ensures
