use Rattle.primary.proofs.Offers.{AtNumber}
use Rattle.primary.proofs.gating.offer_hart.Given as goal

abbrev pub invariant-loop-number : goal.invariant-loop-number
invariant-loop-number l = AtNumber l.fn.gate l.gate l.hart l.outputs l.number
