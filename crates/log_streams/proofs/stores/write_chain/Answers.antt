use Rattle.std.proofs.Common.{[], ◌∷◌}
use Rattle.std.specs.Prelude.{codes}
use Rattle.std.proofs.lemmas.Result.{err_from_is_err_and}
use Rattle.log_streams.specs.Stores.{numbers}
use Rattle.log_streams.proofs.Writing.{first_stops, second_stops, third_writes}
use Rattle.log_streams.proofs.stores.write_chain.Goals as goal

pub returns-in_err-write_all : goal.returns-in_err-write_all
returns-in_err-write_all g c =
    let p = err_from_is_err_and c.from_residual.result c.from_residual.ensures.1 in
    first_stops g.W.Sink.bytes g.W.Sink.failures c.from_residual.result p.0 c.args.out.now c.write_all.new.out (codes "chain") (numbers c.args.terms.now)
    (10 ∷ []) p.1 c.in_err-write_all.ensures

pub returns-in_err-write_terms : goal.returns-in_err-write_terms
returns-in_err-write_terms g c =
    let p = err_from_is_err_and c.from_residual-in_err-write_terms.result c.from_residual-in_err-write_terms.ensures.1 in
    second_stops g.W.Sink.bytes g.W.Sink.failures c.from_residual-in_err-write_terms.result p.0 c.args.out.now c.write_all.new.out c.write_terms.new.out
    (codes "chain") (numbers c.args.terms.now) (10 ∷ []) p.1 c.in_ok-write_all.ensures c.in_err-write_terms.ensures

pub returns : goal.returns
returns g c =
    third_writes g.W.Sink.bytes g.W.Sink.failures c.write_all-2.result c.args.out.now c.write_all.new.out c.write_terms.new.out c.write_all-2.new.out
    (codes "chain") (numbers c.args.terms.now) (10 ∷ []) c.in_ok-write_all.ensures c.in_ok-write_terms.ensures c.write_all-2.ensures
