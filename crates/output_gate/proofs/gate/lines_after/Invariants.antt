use Rattle.std.proofs.Common.{◌≡◌, ℕ, ◌<◌, ◌≤◌, length, slice_index_or}
use Rattle.ft_types.specs.Counts.{count_at}
use Rattle.ft_types.specs.declared.names.TheConstants.{HART_ROW}
use Rattle.output_gate.specs.Gates.{fresh_line}
use Rattle.output_gate.proofs.gate.lines_after.Given as goal

abbrev pub invariant-loop-number : goal.invariant-loop-number
invariant-loop-number l = record {
  harts : length l.lines ≡ HART_ROW;
  done : (hart : ℕ) → hart < l.number → slice_index_or l.lines hart (fresh_line 0) ≡ fresh_line (count_at l.marks hart);
  left : (hart : ℕ) → l.number ≤ hart → slice_index_or l.lines hart (fresh_line 0) ≡ fresh_line 0;
}
