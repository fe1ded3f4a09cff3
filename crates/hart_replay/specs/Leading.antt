-- A leg that is replayed round by round.
use Rattle.std.specs.Prelude.{◌≡◌, ◌<◌, ◌≤◌, ◌⊎◌, ℕ, List, length, take, drop, true, false}
use Rattle.ft_types.specs.Counts.{count_at}
use Rattle.interleaving.specs.Log.{HasUnmet}
use Rattle.edge_log.specs.EdgeLog.{edges_of}
use Rattle.guest_image.specs.Image.{ImageContents}
use Rattle.guest_image.specs.Machine.{MachineState}
use Rattle.book_modes.specs.declared.mode.Leg.{Leg}
use Rattle.page_book.specs.Books.{BookView}
use Rattle.hart_lease.specs.Runs.{counts_of}
use Rattle.lease_rounds.specs.Leading.{IsIdle}
use Rattle.hart_replay.specs.declared.plans.PlannedLeg.{PlannedLeg}
use Rattle.hart_replay.specs.declared.fault.ReplayFault.{ReplayFault}
use Rattle.hart_replay.specs.declared.fault.ReplayFault.TheVariants.{Cyclic, HaltedInside, OtherGuest, Memory}
use Rattle.hart_replay.specs.Plans.{GoOn}
use Rattle.hart_replay.specs.Replays.{IsOutcome, is_halted, IsCyclicAt, HaltsInsideAt, IsAtLeg}

-- the hart cannot go on: it is at its end, halted, or waits for another
abbrev pub IsHeld : BookView Leg → ℕ → Type 0
IsHeld b hart =
    (count_at b.mode.ends hart ≤ counts_of b.machine hart) ⊎ (is_halted b.machine hart ≡ true) ⊎
    HasUnmet (edges_of b.mode.edges) (counts_of b.machine) hart

-- the book was begun so, and no lease is open
pub record IsLeading (m : MachineState) (leg : Leg) (b : BookView Leg) : Type 0 where
  pub start : b.start ≡ m
  pub mode : b.mode ≡ leg
  pub idle : IsIdle b
  pub harts : length b.machine.harts ≡ length m.harts

-- what a book of the leg obeys
abbrev pub leg_of : PlannedLeg → Leg
leg_of leg = record { ends = leg.ends; edges = leg.edges; inputs = leg.inputs }

-- the book of the leg was begun with this machine, and none of its harts can go on
pub record HasStopped (m : MachineState) (leg : PlannedLeg) (b : BookView Leg) : Type 0 where
  pub leading : IsLeading m (leg_of leg) b
  pub held : (hart : ℕ) → hart < length b.machine.harts → IsHeld b hart

-- ---- where it ends

-- the hart has not come to its end
abbrev pub IsBelow : MachineState → List ℕ → ℕ → Type 0
IsBelow m ends hart = counts_of m hart < count_at ends hart

-- the harts are all at their ends
abbrev pub AreAtEnds : MachineState → List ℕ → Type 0
AreAtEnds m ends = (hart : ℕ) → hart < length m.harts → count_at ends hart ≤ counts_of m hart

-- the machine is this one, whose harts are all at their ends
abbrev pub ComesTo : MachineState → List ℕ → MachineState → Type 0
ComesTo m ends n = (n ≡ m) × AreAtEnds m ends

-- which hart has not come to its end, and why
abbrev pub ComesShort : MachineState → List ℕ → ReplayFault → Type 0
ComesShort m ends (Cyclic counts) =
    (length counts ≡ length m.harts) × ((hart : ℕ) → count_at counts hart ≡ counts_of m hart) × ((hart : ℕ) × IsBelow m ends hart) ×
    ((hart : ℕ) → hart < length m.harts → IsBelow m ends hart → is_halted m hart ≡ false)
ComesShort m ends (HaltedInside hart count) =
    (count ≡ counts_of m hart) × IsBelow m ends hart × (is_halted m hart ≡ true) ×
    ((other : ℕ) → other < hart → IsBelow m ends other → is_halted m other ≡ false)
ComesShort m ends OtherGuest = ⊥
ComesShort m ends Memory = Unit {0}

-- why a leg has no outcome from this machine
abbrev pub IsLegFault : PlannedLeg → MachineState → ReplayFault → Type 0
IsLegFault leg m (Cyclic counts) = IsCyclicAt leg m counts
IsLegFault leg m (HaltedInside hart count) = HaltsInsideAt leg m hart count
IsLegFault leg m OtherGuest = ⊥
IsLegFault leg m Memory = Unit {0}

-- why the legs have no outcome
abbrev pub IsLegsFault : ImageContents → List PlannedLeg → ReplayFault → Type 0
IsLegsFault image legs (Cyclic counts) = IsAtLeg image legs (λ leg m. IsCyclicAt leg m counts)
IsLegsFault image legs (HaltedInside hart count) = IsAtLeg image legs (λ leg m. HaltsInsideAt leg m hart count)
IsLegsFault image legs OtherGuest = ⊥
IsLegsFault image legs Memory = Unit {0}

-- the first legs led to this machine, and the next one goes on from it
pub record IsSoFar (image : ImageContents) (legs : List PlannedLeg) (n : ℕ) (m : MachineState) : Type 0 where
  pub led : IsOutcome image (take n legs) m
  pub harts : length m.harts ≡ image.harts
  pub on : GoOn (counts_of m) (drop n legs)
