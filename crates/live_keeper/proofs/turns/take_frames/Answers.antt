use Rattle.std.proofs.Common.{[], ◌∷◌}
use Rattle.live_keeper.specs.Turns.{TookAll}
use Rattle.live_keeper.proofs.Steps.{took_more}
use Rattle.live_keeper.proofs.turns.take_frames.Goals as goal

pub loop-frame-init : goal.loop-frame-init
loop-frame-init c = TookAll c.args.station.now

pub loop-frame-preserved : goal.loop-frame-preserved
loop-frame-preserved c =
    took_more c.args.station.now c.loop-frame.station c.take_frame.new.station c.loop-frame.yielded (c.in-Some.frame ∷ []) c.loop-frame.invariant
    c.in_ok-take_frame.ensures.taken
