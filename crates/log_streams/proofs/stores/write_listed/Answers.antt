use Rattle.std.proofs.lemmas.Result.{err_from_is_err_and}
use Rattle.guest_image.proofs.TextFacts.{then_writes, then_stops}
use Rattle.log_streams.specs.Stores.{openings_text, fragments_text}
use Rattle.log_streams.proofs.stores.write_listed.Goals as goal

pub returns-in_err-write_openings : goal.returns-in_err-write_openings
returns-in_err-write_openings g c =
    let p = err_from_is_err_and c.from_residual.result c.from_residual.ensures.1 in
    then_stops g.W.Sink.bytes g.W.Sink.failures c.from_residual.result p.0 c.args.out.now c.write_openings.new.out
    (openings_text c.args.store.now c.args.terms.now) (fragments_text c.args.store.now c.args.keys.now) p.1 c.in_err-write_openings.ensures

pub returns : goal.returns
returns g c =
    then_writes g.W.Sink.bytes g.W.Sink.failures c.write_fragments.result c.args.out.now c.write_openings.new.out c.write_fragments.new.out
    (openings_text c.args.store.now c.args.terms.now) (fragments_text c.args.store.now c.args.keys.now) c.in_ok-write_openings.ensures
    c.write_fragments.ensures
