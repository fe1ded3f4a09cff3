use Rattle.std.proofs.Common.{◌≡◌, ◌≢◌, ℕ, ◌<◌, ◌≤◌}
use Rattle.ft_types.specs.Counts.{count_at}
use Rattle.output_gate.specs.Gates.{noted_at}
use Rattle.term_gate.proofs.acked.note_row.Given as goal

abbrev pub invariant-loop-number : goal.invariant-loop-number
invariant-loop-number l = record {
  own : l.keeper < l.gate.keepers;
  noted : (hart : ℕ) → hart < l.number → noted_at l.gate l.keeper hart ≡ count_at l.row hart;
  left : (hart : ℕ) → l.number ≤ hart → noted_at l.gate l.keeper hart ≡ noted_at l.initial.gate l.keeper hart;
  others : (k hart : ℕ) → k ≢ l.keeper → noted_at l.gate k hart ≡ noted_at l.initial.gate k hart;
  rest : l.gate ≡ record l.initial.gate { noted = l.gate.noted };
}
