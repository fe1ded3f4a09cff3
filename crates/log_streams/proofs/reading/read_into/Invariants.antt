use Rattle.std.proofs.Common.{◌≡◌}
use Rattle.log_streams.specs.Faults.{GaveRight}
use Rattle.log_streams.proofs.StreamLemmas.{IsReading}
use Rattle.log_streams.proofs.reading.read_into.Given as goal

abbrev pub invariant-loop-read : goal.invariant-loop-read
invariant-loop-read g l =
    IsReading l.fn.store (g.R.Source.left l.fn.reader) (g.R.Source.left l.reader) l.feed l.store ×
    GaveRight l.fn.store.guest (g.R.Source.left l.fn.reader) (g.R.Source.left l.reader) ×
    (g.R.Source.failures l.reader ≡ g.R.Source.failures l.fn.reader)
