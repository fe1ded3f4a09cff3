use Rattle.std.proofs.Common.{List, ℕ, ◌++◌, subst}
use Rattle.std.proofs.lemmas.Result.{err_from_is_err_and}
use Rattle.ft_types.specs.Text.{line}
use Rattle.guest_image.proofs.TextFacts.{WritesTo, then_writes, then_stops}
use Rattle.log_streams.proofs.lines.write_long_line.Goals as goal

pub returns-in_err-write_all : goal.returns-in_err-write_all
returns-in_err-write_all g c =
    let p = err_from_is_err_and c.from_residual.result c.from_residual.ensures.1 in
    let written : List ℕ → Type 0 = λ front. WritesTo g.W.Sink.bytes g.W.Sink.failures c.from_residual.result c.args.out.now c.write_all.new.out
    (front ++ line c.args.back)
    in
    subst written c.as_slice.ensures (then_stops g.W.Sink.bytes g.W.Sink.failures c.from_residual.result p.0 c.args.out.now c.write_all.new.out
    c.as_slice.result.now (line c.args.back) p.1 c.in_err-write_all.ensures)

pub returns : goal.returns
returns g c =
    let written : List ℕ → Type 0 = λ front. WritesTo g.W.Sink.bytes g.W.Sink.failures c.write.result c.args.out.now c.write.new.out
    (front ++ line c.args.back)
    in
    subst written c.as_slice.ensures (then_writes g.W.Sink.bytes g.W.Sink.failures c.write.result c.args.out.now c.write_all.new.out c.write.new.out
    c.as_slice.result.now (line c.args.back) c.in_ok-write_all.ensures c.write.ensures)
