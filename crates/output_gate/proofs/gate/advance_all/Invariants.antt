use Rattle.std.proofs.Common.{◌≡◌, ◌≤◌, ◌<◌, ℕ, length, slice_index_or}
use Rattle.ft_types.specs.declared.names.TheConstants.{HART_ROW}
use Rattle.output_gate.specs.Gates.{LineView, after_release}
use Rattle.output_gate.proofs.gate.advance_all.Given as goal

abbrev pub invariant-loop-hart : goal.invariant-loop-hart
invariant-loop-hart l = record {
  wide : length l.lines ≡ HART_ROW;
  done : (hart : ℕ) (other : LineView) → hart < l.hart →
      slice_index_or l.lines hart other ≡ after_release l.need l.noted (slice_index_or l.initial.lines hart other);
  left : (hart : ℕ) (other : LineView) → l.hart ≤ hart → slice_index_or l.lines hart other ≡ slice_index_or l.initial.lines hart other;
}
