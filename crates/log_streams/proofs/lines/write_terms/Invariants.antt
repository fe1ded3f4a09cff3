use Rattle.std.proofs.Common.{drop}
use Rattle.guest_image.proofs.TextFacts.{LeftOf}
use Rattle.log_streams.specs.Stores.{numbers}
use Rattle.log_streams.proofs.lines.write_terms.Given as goal

abbrev pub invariant-loop-term : goal.invariant-loop-term
invariant-loop-term g l = LeftOf g.W.Sink.bytes g.W.Sink.failures l.fn.out l.out (numbers l.terms) (numbers (drop l.term-index l.terms))
