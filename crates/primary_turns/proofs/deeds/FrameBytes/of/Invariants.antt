use Rattle.std.proofs.Common.{◌≡◌, take}
use Rattle.std.specs.List.{flat_map}
use Rattle.fragment_codec.specs.Streams.{spelling}
use Rattle.primary_turns.proofs.deeds.FrameBytes.of.Given as goal

abbrev pub invariant-loop-frame : goal.invariant-loop-frame
invariant-loop-frame l = l.sink.bytes ≡ flat_map spelling (take l.frame-index l.frames)
