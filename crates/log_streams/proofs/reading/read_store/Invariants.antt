use Rattle.log_streams.proofs.Lifted.{IsRead}
use Rattle.log_streams.proofs.reading.read_store.Given as goal

abbrev pub invariant-loop-stream : goal.invariant-loop-stream
invariant-loop-stream g l = IsRead g.R.Source.left g.R.Source.failures l.guest l.fn.readers l.readers l.stream l.store
