use Rattle.rows.specs.machinery.Made.{IsOfThree}
use Rattle.rows.proofs.gates.first_untold.Given as goal

abbrev pub invariant-loop-line : goal.invariant-loop-line
invariant-loop-line l = IsOfThree l.gate
