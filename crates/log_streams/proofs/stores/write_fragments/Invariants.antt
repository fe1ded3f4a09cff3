use Rattle.std.proofs.Common.{drop}
use Rattle.guest_image.proofs.TextFacts.{LeftOf}
use Rattle.log_streams.specs.Stores.{fragments_text}
use Rattle.log_streams.proofs.stores.write_fragments.Given as goal

abbrev pub invariant-loop-key : goal.invariant-loop-key
invariant-loop-key g l = LeftOf g.W.Sink.bytes g.W.Sink.failures l.fn.out l.out (fragments_text l.store l.keys)
    (fragments_text l.store (drop l.key-index l.keys))
