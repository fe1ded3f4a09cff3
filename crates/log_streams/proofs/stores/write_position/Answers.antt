use Rattle.std.proofs.lemmas.Result.{err_from_is_err_and}
use Rattle.guest_image.proofs.TextFacts.{then_writes, then_stops}
use Rattle.log_streams.specs.Stores.{chain_line, position_line}
use Rattle.log_streams.proofs.stores.write_position.Goals as goal

pub returns-in_err-write_chain : goal.returns-in_err-write_chain
returns-in_err-write_chain g c =
    let p = err_from_is_err_and c.from_residual.result c.from_residual.ensures.1 in
    then_stops g.W.Sink.bytes g.W.Sink.failures c.from_residual.result p.0 c.args.out.now c.write_chain.new.out (chain_line c.args.terms.now)
    (position_line c.args.position.now) p.1 c.in_err-write_chain.ensures

pub returns : goal.returns
returns g c =
    then_writes g.W.Sink.bytes g.W.Sink.failures c.write_counted.result c.args.out.now c.write_chain.new.out c.write_counted.new.out
    (chain_line c.args.terms.now) (position_line c.args.position.now) c.in_ok-write_chain.ensures c.write_counted.ensures
