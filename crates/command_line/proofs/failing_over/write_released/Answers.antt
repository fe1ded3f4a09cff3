use Rattle.std.proofs.Common.{◌≡◌, ◌+◌, ◌++◌, drop}
use Rattle.std.specs.List.{flat_map}
use Rattle.std.proofs.lemmas.Result.{err_from_is_err_and}
use Rattle.command_line.specs.FailingOver.{released_line}
use Rattle.guest_image.proofs.TextFacts.{goes_on, stops, flat_at}
use Rattle.command_line.proofs.failing_over.write_released.Goals as goal

pub returns-in_err-write_one_released : goal.returns-in_err-write_one_released
returns-in_err-write_one_released g c =
    let p = err_from_is_err_and c.from_residual.result c.from_residual.ensures.1 in
    let first : flat_map released_line (drop c.loop-one.one-index c.args.released.now) ≡ released_line c.one-item.result
    ++ flat_map released_line (drop (c.loop-one.one-index + 1) c.args.released.now) =
    flat_at released_line c.loop-one.one-index c.args.released.now c.one-item.result c.one-item.is c.loop-one-test.true
    in
    stops g.W.Sink.bytes g.W.Sink.failures c.from_residual.result p.0 c.args.out.now c.loop-one.out
    c.write_one_released.new.out (flat_map released_line c.args.released.now)
    (flat_map released_line (drop c.loop-one.one-index c.args.released.now)) (released_line c.one-item.result)
    (flat_map released_line (drop (c.loop-one.one-index + 1) c.args.released.now)) p.1 first c.loop-one.invariant
    c.in_err-write_one_released.ensures

pub loop-one-preserved : goal.loop-one-preserved
loop-one-preserved g c =
    let first : flat_map released_line (drop c.loop-one.one-index c.args.released.now) ≡ released_line c.one-item.result
    ++ flat_map released_line (drop (c.loop-one.one-index + 1) c.args.released.now) =
    flat_at released_line c.loop-one.one-index c.args.released.now c.one-item.result c.one-item.is c.loop-one-test.true
    in
    goes_on g.W.Sink.bytes g.W.Sink.failures c.args.out.now c.loop-one.out c.write_one_released.new.out
    (flat_map released_line c.args.released.now) (flat_map released_line (drop c.loop-one.one-index c.args.released.now))
    (released_line c.one-item.result) (flat_map released_line (drop (c.loop-one.one-index + 1) c.args.released.now)) first
    c.loop-one.invariant c.in_ok-write_one_released.ensures
