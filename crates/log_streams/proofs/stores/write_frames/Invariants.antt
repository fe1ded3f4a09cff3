use Rattle.std.proofs.Common.{drop}
use Rattle.std.specs.List.{flat_map}
use Rattle.ft_types.proofs.Writings.{IsLeft}
use Rattle.fragment_codec.specs.Streams.{spelling}
use Rattle.log_streams.proofs.stores.write_frames.Given as goal

abbrev pub invariant-loop-frame : goal.invariant-loop-frame
invariant-loop-frame g l = IsLeft (g.W.Sink.bytes l.fn.out) (g.W.Sink.bytes l.out) (g.W.Sink.failures l.fn.out)
    (g.W.Sink.failures l.out) (flat_map spelling l.frames) (flat_map spelling (drop l.frame-index l.frames))
