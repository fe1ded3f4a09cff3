use Rattle.std.proofs.Common.{◌≡◌, ◌≢◌, ◌<◌, ◌++◌, ℕ, length, slice_get, Some}
use Rattle.ft_types.specs.declared.names.TheConstants.{HART_ROW}
use Rattle.input_log.specs.Waiting.{bells_of, others_of}
use Rattle.rv32_hart.specs.Hart.{Hart}
use Rattle.book_modes.specs.Silences.{unheard_from}
use Rattle.book_modes.proofs.unheard.put_unheard.Given as goal

abbrev pub invariant-loop-number : goal.invariant-loop-number
invariant-loop-number l = record {
  bells : bells_of l.desk l.target ≡ bells_of l.initial.desk l.target ++ unheard_from l.machine l.target l.number;
  bells_of_others : (other : ℕ) → other ≢ l.target → bells_of l.desk other ≡ bells_of l.initial.desk other;
  others : (other : ℕ) → others_of l.desk other ≡ others_of l.initial.desk other;
  row : 0 < l.number → (h : Hart) → slice_get l.machine.harts l.target ≡ Some h → length h.received.heard ≡ HART_ROW;
}
