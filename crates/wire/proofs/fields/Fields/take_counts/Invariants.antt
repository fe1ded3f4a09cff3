use Rattle.wire.proofs.Rows.{CountsSoFar}
use Rattle.wire.proofs.fields.Fields.take_counts.Given as goal

abbrev pub invariant-loop-number : goal.invariant-loop-number
invariant-loop-number l = CountsSoFar l.harts l.fn.self l.self l.counts l.number
