use Rattle.std.proofs.Common.{inl, inr, arith}
use Rattle.std.proofs.lemmas.Bool.{cases_lt}
use Rattle.tracked_position.specs.machinery.Waits.{Free}
use Rattle.tracked_position.proofs.held.is_none_waiting.Goals as goal

pub returns : goal.returns
returns c is hart = elim (cases_lt hart c.loop-index.index) [
  | inl low ↦ Free (c.loop-index.invariant hart low)
  | inr high ↦ Free (c.requires.rest hart (omega (arith, high)))
]
