use Rattle.std.proofs.Common.{◌≡◌, ◌+◌, ◌++◌, drop}
use Rattle.std.specs.List.{flat_map}
use Rattle.std.proofs.lemmas.Result.{err_from_is_err_and}
use Rattle.fragment_codec.specs.Streams.{spelling}
use Rattle.guest_image.proofs.TextFacts.{goes_on, stops, flat_at}
use Rattle.log_streams.proofs.stores.write_frames.Goals as goal

pub returns-in_err-write_one : goal.returns-in_err-write_one
returns-in_err-write_one g c =
    let p = err_from_is_err_and c.from_residual.result c.from_residual.ensures.1 in
    let first : flat_map spelling (drop c.loop-frame.frame-index c.args.frames.now) ≡ spelling c.frame-item.result
    ++ flat_map spelling (drop (c.loop-frame.frame-index + 1) c.args.frames.now) =
    flat_at spelling c.loop-frame.frame-index c.args.frames.now c.frame-item.result c.frame-item.is c.loop-frame-test.true
    in
    stops g.W.Sink.bytes g.W.Sink.failures c.from_residual.result p.0 c.args.out.now c.loop-frame.out
    c.write_one.new.out (flat_map spelling c.args.frames.now)
    (flat_map spelling (drop c.loop-frame.frame-index c.args.frames.now)) (spelling c.frame-item.result)
    (flat_map spelling (drop (c.loop-frame.frame-index + 1) c.args.frames.now)) p.1 first c.loop-frame.invariant
    c.in_err-write_one.ensures

pub loop-frame-preserved : goal.loop-frame-preserved
loop-frame-preserved g c =
    let first : flat_map spelling (drop c.loop-frame.frame-index c.args.frames.now) ≡ spelling c.frame-item.result
    ++ flat_map spelling (drop (c.loop-frame.frame-index + 1) c.args.frames.now) =
    flat_at spelling c.loop-frame.frame-index c.args.frames.now c.frame-item.result c.frame-item.is c.loop-frame-test.true
    in
    goes_on g.W.Sink.bytes g.W.Sink.failures c.args.out.now c.loop-frame.out c.write_one.new.out
    (flat_map spelling c.args.frames.now) (flat_map spelling (drop c.loop-frame.frame-index c.args.frames.now))
    (spelling c.frame-item.result) (flat_map spelling (drop (c.loop-frame.frame-index + 1) c.args.frames.now)) first
    c.loop-frame.invariant c.in_ok-write_one.ensures
