use Rattle.std.proofs.Common.{length}
use Rattle.least_cuts.proofs.Raised.{raises_next, raises_within}
use Rattle.least_cuts.proofs.closure.raise_all.Goals as goal

pub raise_for-has_raised-requires-clause-within : goal.raise_for-has_raised-requires-clause-within
raise_for-has_raised-requires-clause-within c =
    raises_within c.args.leg.now (length c.args.cut.now) c.loop-number.number c.args.cut.now c.loop-number.cut c.loop-number.has_raised c.requires.leg
    c.loop-number.invariant c.requires.within

pub loop-number-preserved : goal.loop-number-preserved
loop-number-preserved c =
    raises_next c.args.leg.now c.loop-number.number c.args.cut.now c.loop-number.cut c.raise_for-has_raised.new.cut c.loop-number.has_raised c.raise_for-has_raised.result
    c.loop-number.invariant (rw c.new.ensures at c.raise_for-has_raised.ensures.raises)
