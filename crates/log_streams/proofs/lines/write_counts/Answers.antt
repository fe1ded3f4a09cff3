use Rattle.std.proofs.Common.{ℕ, List, ◌++◌, get_or, refl}
use Rattle.std.specs.Prelude.{codes, decimal}
use Rattle.std.proofs.lemmas.Result.{err_from_is_err_and}
use Rattle.log_streams.proofs.Writing.{each_goes_on, each_stops}
use Rattle.log_streams.proofs.lines.write_counts.Goals as goal

pub returns-in_err-write_spaced : goal.returns-in_err-write_spaced
returns-in_err-write_spaced g c =
    let p = err_from_is_err_and c.from_residual.result c.from_residual.ensures.1 in
    let text : ℕ → List ℕ = λ n. codes " " ++ decimal n in
    let at = c.loop-count.count-index in
    each_stops g.W.Sink.bytes g.W.Sink.failures text c.args.counts.now at (get_or c.args.counts.now at 0) 0 c.from_residual.result p.0 c.args.out.now
    c.loop-count.out c.write_spaced.new.out p.1 refl c.loop-count-test.true c.loop-count.invariant c.in_err-write_spaced.ensures

pub loop-count-preserved : goal.loop-count-preserved
loop-count-preserved g c =
    let text : ℕ → List ℕ = λ n. codes " " ++ decimal n in
    let at = c.loop-count.count-index in
    each_goes_on g.W.Sink.bytes g.W.Sink.failures text c.args.counts.now at (get_or c.args.counts.now at 0) 0 c.args.out.now c.loop-count.out c.write_spaced.new.out refl
    c.loop-count-test.true c.loop-count.invariant c.in_ok-write_spaced.ensures
