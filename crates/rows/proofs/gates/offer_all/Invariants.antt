use Rattle.std.specs.Prelude.{◌≡◌}
use Rattle.rows.proofs.gates.offer_all.Given as goal

abbrev pub invariant-loop-number : goal.invariant-loop-number
invariant-loop-number l = l.gate ≡ record l.fn.gate { lines = l.gate.lines }
