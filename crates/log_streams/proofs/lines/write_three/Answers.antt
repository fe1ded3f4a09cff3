use Rattle.std.proofs.lemmas.Result.{err_from_is_err_and}
use Rattle.log_streams.proofs.Writing.{first_stops, second_stops, third_writes}
use Rattle.log_streams.proofs.lines.write_three.Goals as goal

pub returns-in_err-write_all : goal.returns-in_err-write_all
returns-in_err-write_all g c =
    let p = err_from_is_err_and c.from_residual.result c.from_residual.ensures.1 in
    first_stops g.W.Sink.bytes g.W.Sink.failures c.from_residual.result p.0 c.args.out.now c.write_all.new.out c.args.first.now c.args.second.now
    c.args.third.now p.1 c.in_err-write_all.ensures

pub returns-in_err-write_all-2 : goal.returns-in_err-write_all-2
returns-in_err-write_all-2 g c =
    let p = err_from_is_err_and c.from_residual-in_err-write_all-2.result c.from_residual-in_err-write_all-2.ensures.1 in
    second_stops g.W.Sink.bytes g.W.Sink.failures c.from_residual-in_err-write_all-2.result p.0 c.args.out.now c.write_all.new.out c.write_all-2.new.out
    c.args.first.now c.args.second.now c.args.third.now p.1 c.in_ok-write_all.ensures c.in_err-write_all-2.ensures

pub returns : goal.returns
returns g c =
    third_writes g.W.Sink.bytes g.W.Sink.failures c.write_all-3.result c.args.out.now c.write_all.new.out c.write_all-2.new.out c.write_all-3.new.out
    c.args.first.now c.args.second.now c.args.third.now c.in_ok-write_all.ensures c.in_ok-write_all-2.ensures c.write_all-3.ensures
