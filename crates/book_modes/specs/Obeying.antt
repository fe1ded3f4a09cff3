-- Books that obey a leg.
use Rattle.std.specs.Prelude.{◌≡◌, ◌<◌, ℕ, List, [], Option, Some}
use Rattle.ft_types.specs.Counts.{count_at}
use Rattle.edge_log.specs.EdgeLog.{edges_of}
use Rattle.guest_image.specs.Machine.{MachineState}
use Rattle.book_modes.specs.declared.mode.Leg.{Leg}
use Rattle.hart_lease.specs.OpenLeases.{OpenView, LentView, open_at}
use Rattle.hart_lease.specs.Runs.{Heard, heard_in, IsStop, counts_of}

-- what a hart at this count goes out with: the inputs that the leg has there, as far as its next edge or inputs
pub record GoesOut (leg : Leg) (hart count : ℕ) (lent : LentView) : Type 0 where
  pub stop : IsStop (edges_of leg.edges) (heard_in leg.inputs) (count_at leg.ends hart) hart count lent.stop
  pub inputs : lent.inputs ≡ heard_in leg.inputs hart count
  pub edges : lent.edges ≡ []

-- the open lease has the inputs of its hart's count, and its hart hears nothing more before its stop
pub record Hears (heard : Heard) (hart count : ℕ) (lent : OpenView) : Type 0 where
  pub inputs : lent.inputs ≡ heard hart count
  pub later : (n : ℕ) → count < n → n < lent.stop → heard hart n ≡ []

-- each open lease does
abbrev pub EachHears : Heard → MachineState → List (Option OpenView) → Type 0
EachHears heard machine leases =
    (hart : ℕ) (lent : OpenView) → open_at leases hart ≡ Some lent → Hears heard hart (counts_of machine hart) lent
