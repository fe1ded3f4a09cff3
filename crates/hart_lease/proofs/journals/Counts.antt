-- The counts of a machine's harts, in the theory's words.
use Rattle.std.proofs.Common.{◌≡◌, ℕ, slice_get, Option, None, Some, refl}
use Rattle.interleaving.specs.Machine.{counts}
use Rattle.interleaving.specs.Stored.{view}
use Rattle.rv32_hart.specs.Hart.{Hart}
use Rattle.rv32_hart.specs.Hardware.{hardware}
use Rattle.guest_image.specs.Machine.{MachineState}
use Rattle.hart_lease.specs.Recorded.{system}
use Rattle.hart_lease.specs.Runs.{counts_of, steps_taken}

-- how many steps a hart of the machine has taken, in the theory's words
pub counts_is : (pages : ℕ) (m : MachineState) (hart : ℕ) → counts (system pages) (view (hardware pages) m) hart ≡ counts_of m hart
counts_is pages m hart = of (slice_get m.harts hart)
  where
    of : (o : Option Hart) → (system pages).count o ≡ steps_taken o
    of None = refl
    of (Some h) = refl
