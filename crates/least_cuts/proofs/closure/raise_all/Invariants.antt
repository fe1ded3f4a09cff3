use Rattle.least_cuts.specs.machinery.Raising.{Raises}
use Rattle.least_cuts.proofs.closure.raise_all.Given as goal

abbrev pub invariant-loop-number : goal.invariant-loop-number
invariant-loop-number l = Raises l.leg l.number l.fn.cut l.has_raised l.cut
