-- The line of a plan: whose step comes next, and which machine its steps lead to.
use Rattle.std.specs.Prelude.{ℕ, ◌≡◌, ◌+◌, ◌<◌, ◌≤◌, ◌⊎◌, List, [], ◌∷◌, false, Some, length, slice_get, sum}
use Rattle.ft_types.specs.Counts.{count_at}
use Rattle.ft_types.specs.Guests.{GuestParts}
use Rattle.interleaving.specs.Machine.{Turn}
use Rattle.interleaving.specs.Log.{IsMet}
use Rattle.input_log.specs.declared.Input.{Input}
use Rattle.guest_image.specs.Machine.{MachineState}
use Rattle.hart_lease.specs.Runs.{run_of, counts_of}
use Rattle.hart_replay.specs.declared.plans.PlannedLeg.{PlannedLeg}
use Rattle.hart_replay.specs.declared.fault.ReplayFault.{ReplayFault}
use Rattle.hart_replay.specs.Plans.{log_of}
use Rattle.hart_replay.specs.Replays.{is_halted}
use Rattle.hart_replay.specs.Leading.{AreAtEnds, ComesShort}

-- the hart may go in the leg: it runs, is below its end, and the edges of its next step are met
pub record MayGo (leg : PlannedLeg) (m : MachineState) (hart : ℕ) : Type 0 where
  pub runs : is_halted m hart ≡ false
  pub below : counts_of m hart < count_at leg.ends hart
  pub met : IsMet (log_of leg).edges (counts_of m) hart

-- the hart has fewer steps than the other, or as many and is not the greater
abbrev pub ComesFirst : MachineState → ℕ → ℕ → Type 0
ComesFirst m hart other = (counts_of m hart < counts_of m other) ⊎ ((counts_of m hart ≡ counts_of m other) × (hart ≤ other))

-- the hart's step comes next: it is the first of those that may go
pub record IsNext (leg : PlannedLeg) (m : MachineState) (hart : ℕ) : Type 0 where
  pub may : MayGo leg m hart
  pub first : (other : ℕ) → MayGo leg m other → ComesFirst m hart other

-- no hart may go
abbrev pub NoneMayGo : PlannedLeg → MachineState → Type 0
NoneMayGo leg m = (hart : ℕ) → MayGo leg m hart → ⊥

-- the hart's next step, on the leg's inputs
abbrev pub turn_in : PlannedLeg → MachineState → ℕ → Turn (List Input)
turn_in leg m hart = record { hart = hart; input = (log_of leg).inputs hart (counts_of m hart) }

-- that step leads from the first machine to the second
abbrev pub Steps : PlannedLeg → MachineState → ℕ → MachineState → Type 0
Steps leg m hart n = run_of m (turn_in leg m hart ∷ []) ≡ Some n

-- how many legs were led to their ends, how many steps were taken, and the machine
pub record Standing : Type 0 where
  pub place : ℕ
  pub moment : ℕ
  pub machine : MachineState

-- before the first step
abbrev pub standing_at : MachineState → Standing
standing_at m = record { place = 0; moment = 0; machine = m }

-- once one more step was taken
abbrev pub stepped : Standing → MachineState → Standing
stepped t n = record { place = t.place; moment = t.moment + 1; machine = n }

-- once the leg was led to its end
abbrev pub turned : Standing → Standing
turned t = record { place = t.place + 1; moment = t.moment; machine = t.machine }

-- The line of the legs leads from the first to the second: step by step, each that of the hart that comes next, and from each leg whose
-- harts are all at their ends on to the next one.
pub data Leads (legs : List PlannedLeg) (s : Standing) : Standing → Type 0 where
  Begins : Leads legs s s
  StepsOn : {t : Standing} (leg : PlannedLeg) (hart : ℕ) (n : MachineState) → Leads legs s t → slice_get legs t.place ≡ Some leg →
      IsNext leg t.machine hart → Steps leg t.machine hart n → Leads legs s (stepped t n)
  TurnsOn : {t : Standing} (leg : PlannedLeg) → Leads legs s t → slice_get legs t.place ≡ Some leg → AreAtEnds t.machine leg.ends →
      Leads legs s (turned t)

-- the line's first steps, so many, lead from the first machine to the second
abbrev pub IsAt : List PlannedLeg → MachineState → ℕ → MachineState → Type 0
IsAt legs start moment m = (place : ℕ) × Leads legs (standing_at start) (record { place = place; moment = moment; machine = m })

-- where the last leg ends
abbrev pub ends_of : List PlannedLeg → List ℕ
ends_of [] = []
ends_of (leg ∷ []) = leg.ends
ends_of (leg ∷ next ∷ legs) = ends_of (next ∷ legs)

-- how many steps the legs have in all
abbrev pub steps_of : List PlannedLeg → ℕ
steps_of legs = sum (ends_of legs)

-- a timeline: whose plan it is, its legs, the machine with which it begins, and where it stands
pub record LineView : Type 0 where
  pub guest : GuestParts
  pub legs : List PlannedLeg
  pub start : MachineState
  pub stands : Standing

-- the leg in which it stands
abbrev pub InLeg : LineView → (PlannedLeg → Type 0) → Type 0
InLeg t P = (leg : PlannedLeg) → slice_get t.legs t.stands.place ≡ Some leg → P leg

-- nobody is below the end of the last leg
pub record IsAtEnd (t : LineView) : Type 0 where
  pub last : length t.legs ≤ t.stands.place + 1
  pub ends : InLeg t (λ leg. AreAtEnds t.stands.machine leg.ends)

-- the line leads to where no hart may go, and one is below the end of its leg: the fault says which, and why
pub record StuckOn (legs : List PlannedLeg) (start : MachineState) (f : ReplayFault) : Type 0 where
  pub standing : Standing
  pub leads : Leads legs (standing_at start) standing
  pub leg : PlannedLeg
  pub found : slice_get legs standing.place ≡ Some leg
  pub none : NoneMayGo leg standing.machine
  pub short : ComesShort standing.machine leg.ends f

abbrev pub GetsStuck : LineView → ReplayFault → Type 0
GetsStuck t f = StuckOn t.legs t.start f

-- it stands so many steps further on
abbrev pub HasGoneOn : LineView → LineView → ℕ → Type 0
HasGoneOn b c steps = (c ≡ record b { stands = c.stands }) × (c.stands.moment ≡ b.stands.moment + steps)
