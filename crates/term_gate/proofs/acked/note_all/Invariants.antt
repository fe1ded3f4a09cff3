use Rattle.std.proofs.Common.{◌≡◌, ℕ, ◌<◌, ◌≤◌, [], length, slice_index_or}
use Rattle.ft_types.specs.Counts.{count_at}
use Rattle.output_gate.specs.Gates.{noted_at}
use Rattle.term_gate.proofs.acked.note_all.Given as goal

abbrev pub invariant-loop-number : goal.invariant-loop-number
invariant-loop-number l = record {
  keepers : length l.rows ≡ l.gate.keepers;
  noted : (k hart : ℕ) → k < l.number → noted_at l.gate k hart ≡ count_at (slice_index_or l.rows k []) hart;
  left : (k hart : ℕ) → l.number ≤ k → noted_at l.gate k hart ≡ noted_at l.initial.gate k hart;
  rest : l.gate ≡ record l.initial.gate { noted = l.gate.noted };
}
