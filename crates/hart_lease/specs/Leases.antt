-- Leases, as contracts see them.
use Rattle.std.specs.Prelude.{◌≡◌, ◌≢◌, ◌≤◌, ◌<◌, ◌⊎◌, ◌+◌, ◌-◌, ℕ, zero, suc, List, [], ◌∷◌, length, replicate, slice_get, slice_set, slice_index}
use Rattle.std.specs.Prelude.{slice_index_or, true, Option, Some, None}
use Rattle.ft_types.specs.declared.names.Want.{Want}
use Rattle.ft_types.specs.declared.names.Want.TheVariants.{Read, Write}
use Rattle.ft_types.specs.declared.names.TheConstants.{LEASE_STEPS}
use Rattle.rv32_hart.specs.Hart.{Hart, with_earlier}
use Rattle.rv32_hart.specs.Step.{IsTaken, IsMissing, IsOutput}
use Rattle.rv32_hart.specs.declared.outcome.Tick.{Tick}
use Rattle.rv32_hart.specs.declared.outcome.Tick.TheVariants.{Done, Miss, Halted, Memory}
use Rattle.hart_lease.specs.declared.lease_pages.Slot.{Slot}
use Rattle.hart_lease.specs.declared.lease_pages.Slot.TheVariants.{Missing, Readable, Writable}
use Rattle.hart_lease.specs.Slots.{ram_of, slot_at, want_of, base_of}
use Rattle.hart_lease.specs.declared.taken.Taken.{Taken}
use Rattle.hart_lease.specs.Taken.{taken_at, taking}
use Rattle.hart_lease.specs.OpenLeases.{LentView, OpenView}
use Rattle.hart_lease.specs.Turns.{given_at}
use Rattle.edge_log.specs.declared.Edge.{Edge}
use Rattle.input_log.specs.declared.Input.{Input}
use Rattle.input_log.specs.declared.WaitingBell.{WaitingBell}
use Rattle.guest_image.specs.Machine.{MachineState}

pub record LeaseView : Type 0 where
  pub hart : ℕ
  pub base : Hart  -- the hart as it was lent, without its outputs
  pub present : Hart  -- with the outputs of the lease's steps alone
  pub inputs : List Input  -- of its first step
  pub bases : List (Option (List ℕ))  -- each page to be written, as it was lent
  pub slots : List Slot  -- the pages at present
  pub taken : List (Option Taken)  -- since when it has each page
  pub edges : List Edge  -- the edges that wait in it until it is settled
  pub steps : ℕ
  pub most : ℕ  -- how many steps it takes at the most
  pub stop : ℕ  -- the count that the lease does not go past

-- a lease of a hart in this state, without steps and pages, for LEASE_STEPS steps
abbrev pub fresh : ℕ → Hart → ℕ → LentView → LeaseView
fresh hart state pages lent =
    record {
      hart = hart;
      base = state;
      present = state;
      inputs = lent.inputs;
      bases = replicate pages None;
      slots = replicate pages Missing;
      taken = replicate pages None;
      edges = lent.edges;
      steps = 0;
      most = LEASE_STEPS;
      stop = lent.stop;
    }

-- the lease, of a hart that had these outputs before
abbrev pub whole : List (ℕ × ℕ) → LeaseView → LeaseView
whole earlier l = record l { base = with_earlier earlier l.base; present = with_earlier earlier l.present }

-- a hart that is not there has put nothing out
abbrev pub outputs_of : Option Hart → List (ℕ × ℕ)
outputs_of None = []
outputs_of (Some h) = h.outputs

-- the lease, of a hart that had the outputs which its hart has in this machine
abbrev pub whole_in : MachineState → LeaseView → LeaseView
whole_in m l = whole (outputs_of (slice_get m.harts l.hart)) l

-- the page as it was lent
abbrev pub base_at : LeaseView → ℕ → Option (List ℕ)
base_at l page = base_of (slot_at l.slots page) (slice_index_or l.bases page None)

-- after the most steps that it takes, at its stop, and after a step that halts or rings
abbrev pub IsFull : LeaseView → Type 0
IsFull l = (l.most ≤ l.steps) ⊎ ((l.stop ≤ l.present.count) ⊎ ((l.present.halted ≡ true) ⊎ (l.present.rung ≢ l.base.rung)))

-- the bell that waits for whomever the lease rang, which it did at its last step
abbrev pub rung_bell : LeaseView → WaitingBell
rung_bell l = record { source = l.hart; after = l.present.count }

-- one for each time that the hart has rung the target since it was lent
abbrev pub bells_rung : LeaseView → ℕ → List WaitingBell
bells_rung l target = replicate (slice_index l.present.rung target - slice_index l.base.rung target) (rung_bell l)

-- the lease after one more step, which left this hart and these pages
abbrev pub stepped : LeaseView → Hart → List Slot → LeaseView
stepped l present slots = record l { present = present; slots = slots; steps = l.steps + 1 }

-- what the lease's next step is given: its inputs, where it is the first
abbrev pub inputs_next : LeaseView → List Input
inputs_next l = given_at l.inputs l.steps

-- What a tick did: one step of the hart, on the pages that the lease has. Else nothing has changed.
abbrev pub Ticks : Tick → LeaseView → LeaseView → Type 0
Ticks Done l new = (new ≡ stepped l new.present new.slots) × IsTaken (inputs_next l) l.present (ram_of l.slots) new.present (ram_of new.slots)
Ticks (Miss page want) l new = (new ≡ l) × IsMissing (inputs_next l) l.present (ram_of l.slots) (page, want)
Ticks Halted l new = ⊥
Ticks Memory l new = (new ≡ l) × IsOutput (inputs_next l) l.present (ram_of l.slots)

-- what the lease has of a page was lent by this machine
abbrev pub IsLentAt : MachineState → LeaseView → ℕ → Type 0
IsLentAt machine l page = (bytes : List ℕ) → base_at l page ≡ Some bytes → slice_get machine.pages page ≡ Some bytes

-- the hart and the pages were lent by this machine, the pages at these counts
pub record IsLent (machine : MachineState) (taken : List (Option Taken)) (l : LeaseView) : Type 0 where
  pub state : slice_get machine.harts l.hart ≡ Some l.base
  pub as_many : length l.slots ≡ length machine.pages
  pub counts : l.taken ≡ taken
  pub pages : (page : ℕ) → page < length l.slots → IsLentAt machine l page

-- the lease, which takes the page with this right at its present count
abbrev pub with_taken : LeaseView → ℕ → Want → LeaseView
with_taken l page want = record l { taken = slice_set l.taken page (Some (taking (taken_at l.taken page) want l.present.count)) }

-- the lease with a page to read
abbrev pub with_page_to_read : LeaseView → ℕ → List ℕ → LeaseView
with_page_to_read l page here = record (with_taken l page Read) { slots = slice_set l.slots page (Readable here) }

-- the lease with a page to write, kept as it was lent and as it is at present
abbrev pub with_page_to_write : LeaseView → ℕ → List ℕ → List ℕ → LeaseView
with_page_to_write l page base present =
    record (with_taken l page Write) { bases = slice_set l.bases page (Some base); slots = slice_set l.slots page (Writable present) }

-- the lease, which has this right on the page, with what it lacks of the asked one: a copy of the page, or nothing new
abbrev pub with_page_beside : Option Want → Want → LeaseView → ℕ → List ℕ → LeaseView
with_page_beside None Read l page here = with_page_to_read l page here
with_page_beside (Some held) Read l page here = l
with_page_beside None Write l page here = with_page_to_write l page here here
with_page_beside (Some Read) Write l page here = with_page_to_write l page here here
with_page_beside (Some Write) Write l page here = l

-- the lease, once it was given a page that stands here
abbrev pub with_page : LeaseView → ℕ → Want → List ℕ → LeaseView
with_page l page want here = with_page_beside (want_of (slot_at l.slots page)) want l page here

-- the pages, with those that were written in their places
abbrev pub page_after : List ℕ → Slot → List ℕ
page_after page Missing = page
page_after page (Readable same) = page
page_after page (Writable new) = new

abbrev pub laid_pages : List (List ℕ) → List Slot → List (List ℕ)
laid_pages [] slots = []
laid_pages (page ∷ pages) [] = page ∷ pages
laid_pages (page ∷ pages) (slot ∷ slots) = page_after page slot ∷ laid_pages pages slots

-- the pages, with what one slot has in its place where it was written
abbrev pub with_slot : List (List ℕ) → ℕ → Slot → List (List ℕ)
with_slot pages page Missing = pages
with_slot pages page (Readable same) = pages
with_slot pages page (Writable new) = slice_set pages page new

-- the machine with the lease's hart and pages
abbrev pub laid : MachineState → LeaseView → MachineState
laid m l = record { harts = slice_set m.harts l.hart l.present; pages = laid_pages m.pages l.slots }

-- n steps, each of a lease that was not full
abbrev pub StepsOn : ℕ → LeaseView → LeaseView → Type 0
StepsOn zero l new = new ≡ l
StepsOn (suc n) l new = (mid : LeaseView) × StepsOn n l mid × (IsFull mid → ⊥) × Ticks Done mid new

-- steps until the lease is full, or until one that is not done
abbrev pub Runs : Tick → LeaseView → LeaseView → Type 0
Runs Done l new = (n : ℕ) × StepsOn n l new × IsFull new
Runs answer l new = (n : ℕ) × StepsOn n l new × (IsFull new → ⊥) × Ticks answer new new

-- the lease is this open one, which has the hart and the pages of this machine
pub record IsOpen (machine : MachineState) (lent : OpenView) (l : LeaseView) : Type 0 where
  pub stop : l.stop ≡ lent.stop
  pub inputs : l.inputs ≡ lent.inputs
  pub edges : l.edges ≡ lent.edges
  pub is_lent : IsLent machine lent.taken l

abbrev pub IsLentBy : Option OpenView → MachineState → LeaseView → Type 0
IsLentBy None machine l = ⊥
IsLentBy (Some lent) machine l = IsOpen machine lent l
