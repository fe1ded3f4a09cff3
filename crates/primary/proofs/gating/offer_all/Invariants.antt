use Rattle.primary.proofs.Offers.{AreOfferedTo}
use Rattle.primary.proofs.gating.offer_all.Given as goal

abbrev pub invariant-loop-number : goal.invariant-loop-number
invariant-loop-number l = AreOfferedTo l.fn.gate l.gate l.fn.machine l.number
