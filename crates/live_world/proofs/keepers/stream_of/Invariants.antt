use Rattle.std.proofs.Common.{◌≡◌, [], take}
use Rattle.std.specs.List.{flat_map}
use Rattle.fragment_codec.specs.Streams.{Splits, spelling}
use Rattle.live_world.proofs.keepers.stream_of.Given as goal

abbrev pub invariant-loop-frame : goal.invariant-loop-frame
invariant-loop-frame l =
    (l.sink.bytes ≡ flat_map spelling (take l.frame-index l.frames)) × Splits l.sink.bytes (take l.frame-index l.frames) []
