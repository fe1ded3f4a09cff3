use Rattle.std.proofs.Common.{arith}
use Rattle.pair.proofs.Onward.{goes_forward}
use Rattle.pair.proofs.rounds.rounds_on.Goals as goal

pub returns-clause-forward : goal.returns-clause-forward
returns-clause-forward c =
    goes_forward c.args.counts c.args.budget c.args.rounds c.loop-number.end c.loop-number.invariant.harts (λ hart below. c.loop-number.invariant.gone hart (omega arith))
