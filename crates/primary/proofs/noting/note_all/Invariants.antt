use Rattle.primary.proofs.Last.{AreNotedTo}
use Rattle.primary.proofs.noting.note_all.Given as goal

abbrev pub invariant-loop-number : goal.invariant-loop-number
invariant-loop-number l = AreNotedTo l.given l.fn.book l.book l.number
