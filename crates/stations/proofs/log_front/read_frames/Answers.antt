use Rattle.std.proofs.Common.{List, sym, subst}
use Rattle.fragment_codec.specs.declared.frame.Frame.{Frame}
use Rattle.fragment_codec.specs.Streams.{Splits}
use Rattle.stations.proofs.Fronts.{front, most}
use Rattle.stations.proofs.log_front.read_frames.Goals as goal

pub returns-clause-front : goal.returns-clause-front
returns-clause-front c =
    let s = c.in_ok-frames.ensures in
    let these : Splits c.args.bytes.now c.deref.result.now s.0 = subst (λ (fs : List Frame). Splits c.args.bytes.now fs s.0) (sym c.deref.ensures.value) s.1 in
    front c.args.bytes.now s.0 c.in_ok-frames.frames.items c.size_of-size.result c.in_ok-frames.fault s.1 s.2 (c.size_of-size.ensures s.0 these)

pub returns-clause-most : goal.returns-clause-most
returns-clause-most c = λ others other le s.
    most c.args.bytes.now c.in_ok-frames.frames.items others c.size_of-size.result other c.in_ok-frames.fault (returns-clause-front c) le s
