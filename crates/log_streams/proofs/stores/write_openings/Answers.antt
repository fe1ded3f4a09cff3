use Rattle.std.proofs.Common.{ℕ, List, get_or, refl}
use Rattle.std.proofs.lemmas.Result.{err_from_is_err_and}
use Rattle.log_join.specs.Stores.{opening_at}
use Rattle.log_streams.specs.Stores.{opening_bytes}
use Rattle.log_streams.proofs.Writing.{each_goes_on, each_stops}
use Rattle.log_streams.proofs.stores.write_openings.Goals as goal

pub returns-in_err-write_opening : goal.returns-in_err-write_opening
returns-in_err-write_opening g c =
    let p = err_from_is_err_and c.from_residual.result c.from_residual.ensures.1 in
    let text : ℕ → List ℕ = λ term. opening_bytes (opening_at c.args.store.now term) in
    let at = c.loop-term.term-index in
    each_stops g.W.Sink.bytes g.W.Sink.failures text c.args.terms.now at (get_or c.args.terms.now at 0) 0 c.from_residual.result p.0 c.args.out.now
    c.loop-term.out c.write_opening.new.out p.1 refl c.loop-term-test.true c.loop-term.invariant c.in_err-write_opening.ensures

pub loop-term-preserved : goal.loop-term-preserved
loop-term-preserved g c =
    let text : ℕ → List ℕ = λ term. opening_bytes (opening_at c.args.store.now term) in
    let at = c.loop-term.term-index in
    each_goes_on g.W.Sink.bytes g.W.Sink.failures text c.args.terms.now at (get_or c.args.terms.now at 0) 0 c.args.out.now c.loop-term.out
    c.write_opening.new.out refl c.loop-term-test.true c.loop-term.invariant c.in_ok-write_opening.ensures
