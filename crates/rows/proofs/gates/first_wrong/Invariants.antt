use Rattle.std.specs.Prelude.{◌≡◌}
use Rattle.rows.proofs.gates.first_wrong.Given as goal

abbrev pub invariant-loop-line : goal.invariant-loop-line
invariant-loop-line l = l.gate.keepers ≡ 3
