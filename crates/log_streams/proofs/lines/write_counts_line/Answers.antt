use Rattle.std.proofs.Common.{[], ◌∷◌}
use Rattle.std.proofs.lemmas.Result.{err_from_is_err_and}
use Rattle.log_streams.specs.Stores.{numbers}
use Rattle.log_streams.proofs.Writing.{first_stops, second_stops, third_writes}
use Rattle.log_streams.proofs.lines.write_counts_line.Goals as goal

pub returns-in_err-write_all : goal.returns-in_err-write_all
returns-in_err-write_all g c =
    let p = err_from_is_err_and c.from_residual.result c.from_residual.ensures.1 in
    first_stops g.W.Sink.bytes g.W.Sink.failures c.from_residual.result p.0 c.args.out.now c.write_all.new.out c.args.head.now (numbers c.args.counts.now)
    (10 ∷ []) p.1 c.in_err-write_all.ensures

pub returns-in_err-write_counts : goal.returns-in_err-write_counts
returns-in_err-write_counts g c =
    let p = err_from_is_err_and c.from_residual-in_err-write_counts.result c.from_residual-in_err-write_counts.ensures.1 in
    second_stops g.W.Sink.bytes g.W.Sink.failures c.from_residual-in_err-write_counts.result p.0 c.args.out.now c.write_all.new.out c.write_counts.new.out
    c.args.head.now (numbers c.args.counts.now) (10 ∷ []) p.1 c.in_ok-write_all.ensures c.in_err-write_counts.ensures

pub returns : goal.returns
returns g c =
    third_writes g.W.Sink.bytes g.W.Sink.failures c.write_all-2.result c.args.out.now c.write_all.new.out c.write_counts.new.out c.write_all-2.new.out
    c.args.head.now (numbers c.args.counts.now) (10 ∷ []) c.in_ok-write_all.ensures c.in_ok-write_counts.ensures c.write_all-2.ensures
