-- The bells that a machine's harts rang, and that nobody heard yet.
use Rattle.std.specs.Prelude.{ℕ, zero, suc, ◌-◌, ◌++◌, List, [], length, replicate, slice_get, slice_index, Option, Some, None}
use Rattle.input_log.specs.declared.WaitingBell.{WaitingBell}
use Rattle.rv32_hart.specs.Hart.{Hart}
use Rattle.guest_image.specs.Machine.{MachineState}
use Rattle.hart_lease.specs.Runs.{counts_of}

-- how often a hart rang a target, and heard a source
abbrev pub rung_by : Option Hart → ℕ → ℕ
rung_by None target = 0
rung_by (Some h) target = slice_index h.rung target

abbrev pub heard_by : Option Hart → ℕ → ℕ
heard_by None source = 0
heard_by (Some h) source = slice_index h.received.heard source

-- none where more were heard than rung
abbrev pub many_unheard : MachineState → ℕ → ℕ → ℕ
many_unheard m source target = rung_by (slice_get m.harts source) target - heard_by (slice_get m.harts target) source

abbrev pub bell_from : ℕ → ℕ → WaitingBell
bell_from source after = record { source = source; after = after }

-- those of the first so many sources that a target did not hear, by rising source, each with its source's count
abbrev pub unheard_from : MachineState → ℕ → ℕ → List WaitingBell
unheard_from m target zero = []
unheard_from m target (suc source) = unheard_from m target source ++ replicate (many_unheard m source target) (bell_from source (counts_of m source))

-- a target that is not there has none
abbrev pub unheard_of : Option Hart → List WaitingBell → List WaitingBell
unheard_of None bells = []
unheard_of (Some h) bells = bells

abbrev pub unheard_bells : MachineState → ℕ → List WaitingBell
unheard_bells m target = unheard_of (slice_get m.harts target) (unheard_from m target (length m.harts))
