-- Books that end their open leases, and books that go on from others.
use Rattle.std.specs.Prelude.{◌≡◌, ◌++◌, ℕ, zero, suc, List, Option, Some, None, slice_set}
use Rattle.guest_image.specs.Machine.{MachineState}
use Rattle.hart_lease.specs.declared.stretch.Stretch.{Stretch}
use Rattle.hart_lease.specs.declared.taken.Taken.{Taken}
use Rattle.hart_lease.specs.OpenLeases.{OpenView, open_at}
use Rattle.hart_lease.specs.Runs.{counts_of}
use Rattle.page_book.specs.Books.{BookView}

-- the open leases, without those of the first n harts
abbrev pub closed : ℕ → List (Option OpenView) → List (Option OpenView)
closed zero leases = leases
closed (suc n) leases = slice_set (closed n leases) n None

-- what a lease of a hart with a settled count makes of the mode, which took these pages, and ends without its steps
abbrev pub Ending : Type 0 → Type 1
Ending M = M → ℕ → ℕ → List (Option Taken) → M → Type 0

abbrev pub EndsOpen : {M : Type 0} → Ending M → MachineState → Option OpenView → ℕ → M → M → Type 0
EndsOpen ends machine None hart before after = after ≡ before
EndsOpen ends machine (Some lent) hart before after = ends before hart (counts_of machine hart) lent.taken after

-- the open lease of the hart, where it has one, ends without its steps
abbrev pub EndsOne : {M : Type 0} → Ending M → MachineState → List (Option OpenView) → ℕ → M → M → Type 0
EndsOne ends machine leases hart before after = EndsOpen ends machine (open_at leases hart) hart before after

-- those of the first n harts do, one after the other
abbrev pub EndsFirst : {M : Type 0} → Ending M → MachineState → List (Option OpenView) → ℕ → M → M → Type 0
EndsFirst ends machine leases zero before after = after ≡ before
EndsFirst {M} ends machine leases (suc n) before after =
    (between : M) × EndsFirst ends machine leases n before between × EndsOne ends machine leases n between after

-- the first journal begins the second
abbrev pub IsBeginning : List Stretch → List Stretch → Type 0
IsBeginning first second = (rest : List Stretch) × (second ≡ first ++ rest)

-- The second book began as the first did, the first one's journal begins its own, and its mode goes on from the first one's.
pub record GoesOnFrom {M : Type 0} (goes_on : M → (ℕ → ℕ) → M → (ℕ → ℕ) → Type 0) (before b : BookView M) : Type 0 where
  pub start : b.start ≡ before.start
  pub journal : IsBeginning before.journal b.journal
  pub mode : goes_on before.mode (counts_of before.machine) b.mode (counts_of b.machine)
