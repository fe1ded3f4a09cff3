use Rattle.std.proofs.Common.{sym, ◌∙◌}
use Rattle.live_world.proofs.Taking.{one_more, wrote}
use Rattle.live_world.proofs.keepers.stream_of.Goals as goal

pub loop-frame-preserved : goal.loop-frame-preserved
loop-frame-preserved c =
    let at = c.loop-frame in
    one_more c.args.frames.now at.frame-index c.frame-item.result at.sink.bytes c.write_frame.new.sink.bytes c.loop-frame-test.true c.frame-item.is
    (wrote c.write_frame.result at.sink.bytes c.write_frame.new.sink.bytes _ _ _ (sym c.is_err.ensures.value ∙ c.if-is_err.false) c.write_frame.ensures.written)
    c.write_frame.ensures.read_again at.invariant
