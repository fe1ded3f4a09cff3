use Rattle.std.proofs.Common.{◌≡◌, ◌<◌, ◌≤◌, ℕ, [], length, slice_get, Some}
use Rattle.ft_types.specs.declared.names.TheConstants.{HART_ROW}
use Rattle.input_log.specs.Waiting.{bells_of, others_of}
use Rattle.rv32_hart.specs.Hart.{Hart}
use Rattle.book_modes.specs.Silences.{unheard_from}
use Rattle.book_modes.proofs.unheard.desk_of.Given as goal

abbrev pub invariant-loop-number : goal.invariant-loop-number
invariant-loop-number l = record {
  bells : (target : ℕ) → target < l.number → bells_of l.desk target ≡ unheard_from l.machine target (length l.machine.harts);
  none : (target : ℕ) → l.number ≤ target → bells_of l.desk target ≡ [];
  others : (target : ℕ) → others_of l.desk target ≡ [];
  rows : (hart : ℕ) (h : Hart) → hart < l.number → slice_get l.machine.harts hart ≡ Some h → length h.received.heard ≡ HART_ROW;
}
