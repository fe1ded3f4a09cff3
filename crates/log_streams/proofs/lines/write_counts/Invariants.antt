use Rattle.std.proofs.Common.{drop}
use Rattle.guest_image.proofs.TextFacts.{LeftOf}
use Rattle.log_streams.specs.Stores.{numbers}
use Rattle.log_streams.proofs.lines.write_counts.Given as goal

abbrev pub invariant-loop-count : goal.invariant-loop-count
invariant-loop-count g l = LeftOf g.W.Sink.bytes g.W.Sink.failures l.fn.out l.out (numbers l.counts) (numbers (drop l.count-index l.counts))
