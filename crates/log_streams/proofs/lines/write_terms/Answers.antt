use Rattle.std.proofs.Common.{◌≡◌, ℕ, List, ◌++◌, get_or}
use Rattle.std.specs.Prelude.{codes, decimal}
use Rattle.std.proofs.lemmas.Result.{err_from_is_err_and}
use Rattle.log_streams.proofs.Writing.{each_goes_on, each_stops}
use Rattle.log_streams.proofs.lines.write_terms.Goals as goal

pub returns-in_err-write_spaced : goal.returns-in_err-write_spaced
returns-in_err-write_spaced g c =
    let p = err_from_is_err_and c.from_residual.result c.from_residual.ensures.1 in
    let text : ℕ → List ℕ = λ n. codes " " ++ decimal n in
    let at = c.loop-term.term-index in
    let same : c.from.result ≡ get_or c.args.terms.now at 0 = cc in
    each_stops g.W.Sink.bytes g.W.Sink.failures text c.args.terms.now at c.from.result 0 c.from_residual.result p.0 c.args.out.now
    c.loop-term.out c.write_spaced.new.out p.1 same c.loop-term-test.true c.loop-term.invariant c.in_err-write_spaced.ensures

pub loop-term-preserved : goal.loop-term-preserved
loop-term-preserved g c =
    let text : ℕ → List ℕ = λ n. codes " " ++ decimal n in
    let at = c.loop-term.term-index in
    let same : c.from.result ≡ get_or c.args.terms.now at 0 = cc in
    each_goes_on g.W.Sink.bytes g.W.Sink.failures text c.args.terms.now at c.from.result 0 c.args.out.now c.loop-term.out c.write_spaced.new.out same
    c.loop-term-test.true c.loop-term.invariant c.in_ok-write_spaced.ensures
