use Rattle.std.proofs.Common.{◌≡◌, ◌++◌, ◌<◌, ℕ, take, filter, length, slice_index, slice_index_or}
use Rattle.ft_types.specs.declared.names.TheConstants.{HART_ROW}
use Rattle.output_gate.specs.Gates.{LineView, is_held, held_outputs}
use Rattle.output_gate.proofs.gate.give_all.Given as goal

abbrev pub invariant-loop-hart : goal.invariant-loop-hart
invariant-loop-hart l = record {
  wide : length l.held ≡ HART_ROW;
  given : l.given.items ≡ l.initial.given.items ++ held_outputs l.need l.noted (take l.hart l.lines);
  number : (hart : ℕ) (other : LineView) → hart < l.hart →
      slice_index l.held hart ≡ length (filter (is_held l.need l.noted) (slice_index_or l.lines hart other).waiting);
}
