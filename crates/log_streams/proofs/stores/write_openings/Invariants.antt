use Rattle.std.proofs.Common.{drop}
use Rattle.guest_image.proofs.TextFacts.{LeftOf}
use Rattle.log_streams.specs.Stores.{openings_text}
use Rattle.log_streams.proofs.stores.write_openings.Given as goal

abbrev pub invariant-loop-term : goal.invariant-loop-term
invariant-loop-term g l = LeftOf g.W.Sink.bytes g.W.Sink.failures l.fn.out l.out (openings_text l.store l.terms)
    (openings_text l.store (drop l.term-index l.terms))
