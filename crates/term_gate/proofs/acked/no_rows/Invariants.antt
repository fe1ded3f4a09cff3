use Rattle.std.proofs.Common.{◌≡◌, replicate}
use Rattle.term_gate.proofs.acked.no_rows.Given as goal

abbrev pub invariant-loop-keeper : goal.invariant-loop-keeper
invariant-loop-keeper l = l.rows.items ≡ replicate l._keeper (replicate l.harts 0)
