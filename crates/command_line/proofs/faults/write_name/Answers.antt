use Rattle.std.proofs.Common.{get_or, refl}
use Rattle.std.proofs.lemmas.Result.{err_from_is_err_and}
use Rattle.log_streams.proofs.Writing.{each_goes_on, each_stops}
use Rattle.command_line.specs.Faults.{shown}
use Rattle.command_line.proofs.faults.write_name.Goals as goal

pub returns-in_err-write_shown : goal.returns-in_err-write_shown
returns-in_err-write_shown g c =
    let p = err_from_is_err_and c.from_residual.result c.from_residual.ensures.1 in
    let at = c.loop-byte.byte-index in
    each_stops g.W.Sink.bytes g.W.Sink.failures shown c.args.name.now at (get_or c.args.name.now at 0) 0 c.from_residual.result p.0 c.args.out.now
    c.loop-byte.out c.write_shown.new.out p.1 refl c.loop-byte-test.true c.loop-byte.invariant c.in_err-write_shown.ensures

pub loop-byte-preserved : goal.loop-byte-preserved
loop-byte-preserved g c =
    let at = c.loop-byte.byte-index in
    each_goes_on g.W.Sink.bytes g.W.Sink.failures shown c.args.name.now at (get_or c.args.name.now at 0) 0 c.args.out.now c.loop-byte.out c.write_shown.new.out refl
    c.loop-byte-test.true c.loop-byte.invariant c.in_ok-write_shown.ensures
