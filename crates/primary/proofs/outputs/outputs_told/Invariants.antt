use Rattle.std.proofs.Common.{◌≡◌, ◌<◌, ℕ, length, slice_get, slice_index, Some}
use Rattle.ft_types.specs.declared.names.TheConstants.{HART_ROW}
use Rattle.rv32_hart.specs.Hart.{Hart}
use Rattle.primary.proofs.outputs.outputs_told.Given as goal

abbrev pub invariant-loop-number : goal.invariant-loop-number
invariant-loop-number l = record {
  many : length l.told ≡ HART_ROW;
  each : (hart : ℕ) (h : Hart) → hart < l.number → slice_get l.machine.harts hart ≡ Some h → slice_index l.told hart ≡ length h.outputs;
}
