use Rattle.std.proofs.Common.{ℕ, List}
use Rattle.std.proofs.lemmas.Result.{err_from_is_err_and}
use Rattle.fragment_codec.specs.declared.types.Key.{Key}
use Rattle.log_join.specs.Stores.{fragment_at}
use Rattle.log_streams.specs.Stores.{fragment_bytes}
use Rattle.log_streams.proofs.Writing.{each_goes_on, each_stops}
use Rattle.log_streams.proofs.stores.write_fragments.Goals as goal

pub returns-in_err-write_fragment : goal.returns-in_err-write_fragment
returns-in_err-write_fragment g c =
    let p = err_from_is_err_and c.from_residual.result c.from_residual.ensures.1 in
    let text : Key → List ℕ = λ key. fragment_bytes (fragment_at c.args.store.now key) in
    each_stops g.W.Sink.bytes g.W.Sink.failures text c.args.keys.now c.loop-key.key-index c.key-item.result c.key-item.result c.from_residual.result p.0
    c.args.out.now c.loop-key.out c.write_fragment.new.out p.1 c.key-item.is c.loop-key-test.true c.loop-key.invariant c.in_err-write_fragment.ensures

pub loop-key-preserved : goal.loop-key-preserved
loop-key-preserved g c =
    let text : Key → List ℕ = λ key. fragment_bytes (fragment_at c.args.store.now key) in
    each_goes_on g.W.Sink.bytes g.W.Sink.failures text c.args.keys.now c.loop-key.key-index c.key-item.result c.key-item.result c.args.out.now
    c.loop-key.out c.write_fragment.new.out c.key-item.is c.loop-key-test.true c.loop-key.invariant c.in_ok-write_fragment.ensures
