use Rattle.live_keeper.specs.Turns.{TakesFrames}
use Rattle.live_keeper.proofs.turns.take_frames.Given as goal

abbrev pub invariant-loop-frame : goal.invariant-loop-frame
invariant-loop-frame l = TakesFrames l.fn.station l.yielded l.station
