-- What a replay of a plan comes to.
use Rattle.std.specs.Prelude.{◌≡◌, ◌<◌, ◌++◌, ◌⊎◌, ℕ, List, [], ◌∷◌, length, slice_get, Bool, true, false, Some, Result, MatchResult}
use Rattle.ft_types.specs.Counts.{count_at}
use Rattle.interleaving.specs.Machine.{Turn}
use Rattle.interleaving.specs.Log.{Begins, IsSchedule, IsStuck, counts_after, turns_of}
use Rattle.interleaving.specs.Stored.{halted_of, system_of, view}
use Rattle.input_log.specs.declared.Input.{Input}
use Rattle.log_join.specs.Stores.{StoreView, IsStore}
use Rattle.ft_types.specs.declared.position.Position.{Position}
use Rattle.rv32_hart.specs.Hardware.{hardware}
use Rattle.guest_image.specs.Image.{ImageContents}
use Rattle.guest_image.specs.Machine.{MachineState, boot_machine}
use Rattle.hart_lease.specs.Runs.{run_of}
use Rattle.hart_replay.specs.declared.plans.PlannedLeg.{PlannedLeg}
use Rattle.hart_replay.specs.declared.fault.ReplayFault.{ReplayFault}
use Rattle.hart_replay.specs.declared.fault.ReplayFault.TheVariants.{Cyclic, HaltedInside, OtherGuest, Memory}
use Rattle.hart_replay.specs.Plans.{log_of}
use Rattle.hart_replay.specs.Images.{GuestHistory, machine_of, IsHonestStoreOf}
use Rattle.hart_replay.specs.Laws.{ArePlanned}

-- ---- legs, one after the other

-- the steps of the leg's harts in this order, with the leg's inputs
abbrev pub leg_turns : PlannedLeg → List ℕ → List (Turn (List Input))
leg_turns leg order = turns_of (log_of leg).inputs (log_of leg).start order

-- a schedule of the leg leads from the first machine to the second
abbrev pub LegLeads : PlannedLeg → MachineState → MachineState → Type 0
LegLeads leg m n = (order : List ℕ) × IsSchedule (log_of leg) (count_at leg.ends) order × (run_of m (leg_turns leg order) ≡ Some n)

-- schedules of the legs, one after the other, lead from the first machine to the second
abbrev pub LegsLead : List PlannedLeg → MachineState → MachineState → Type 0
LegsLead [] m n = n ≡ m
LegsLead (leg ∷ legs) m n = (next : MachineState) × LegLeads leg m next × LegsLead legs next n

-- they lead from boot to the machine
abbrev pub IsOutcome : ImageContents → List PlannedLeg → MachineState → Type 0
IsOutcome image legs m = LegsLead legs (boot_machine image) m

-- ---- legs that have no end

-- the hart is halted, or is not there
abbrev pub is_halted : MachineState → ℕ → Bool
is_halted m hart = halted_of (hardware (length m.pages)) (slice_get m.harts hart)

-- the leg's harts went from the first machine to the second in this order, which begins a schedule of the leg, and are
-- stuck: one is below its end, and none of those can go on
pub record GetsStuck (leg : PlannedLeg) (m : MachineState) (order : List ℕ) (n : MachineState) : Type 0 where
  pub begins : Begins (log_of leg).edges (count_at leg.ends) (log_of leg).start order
  pub run : run_of m (leg_turns leg order) ≡ Some n
  pub stuck : IsStuck (system_of (hardware (length n.pages))) (log_of leg).edges (count_at leg.ends) (counts_after (log_of leg).start order)
      (view (hardware (length n.pages)) n)

-- they are stuck at these counts, one for each hart, and none of those below their end is halted
pub record IsCyclicAt (leg : PlannedLeg) (m : MachineState) (counts : List ℕ) : Type 0 where
  pub harts : length counts ≡ length m.harts
  pub order : List ℕ
  pub machine : MachineState
  pub stuck : GetsStuck leg m order machine
  pub counts_are : (hart : ℕ) → count_at counts hart ≡ counts_after (log_of leg).start order hart
  pub awake : (hart : ℕ) → count_at counts hart < count_at leg.ends hart → is_halted machine hart ≡ false

-- they are stuck, and this is the least one that is halted below its end, at this count
pub record HaltsInsideAt (leg : PlannedLeg) (m : MachineState) (hart count : ℕ) : Type 0 where
  pub order : List ℕ
  pub machine : MachineState
  pub stuck : GetsStuck leg m order machine
  pub count_is : count ≡ counts_after (log_of leg).start order hart
  pub below : count < count_at leg.ends hart
  pub halted : is_halted machine hart ≡ true
  pub least : (other : ℕ) → other < hart → counts_after (log_of leg).start order other < count_at leg.ends other → is_halted machine other ≡ false

-- one of the legs is at fault from the machine to which schedules of those before it lead from boot
pub record IsAtLeg (image : ImageContents) (legs : List PlannedLeg) (is_at_fault : PlannedLeg → MachineState → Type 0) : Type 0 where
  pub front : List PlannedLeg
  pub leg : PlannedLeg
  pub back : List PlannedLeg
  pub parts : legs ≡ front ++ leg ∷ back
  pub found : MachineState
  pub led : IsOutcome image front found
  pub fault : is_at_fault leg found

-- a fact of the counts, where the fault is Cyclic
abbrev pub IfCyclic : ReplayFault → (List ℕ → Type 0) → Type 0
IfCyclic (Cyclic counts) P = P counts
IfCyclic _ P = Unit {0}

-- a fact of the hart and its count, where it is HaltedInside
abbrev pub IfHaltedInside : ReplayFault → (ℕ → ℕ → Type 0) → Type 0
IfHaltedInside (HaltedInside hart count) P = P hart count
IfHaltedInside _ P = Unit {0}

-- ---- honest frames

-- Where the plan is that of a store of honest frames of one history of the image, the machine is the history's at the
-- position, and the only faults are another guest and refused memory.
abbrev pub ReplaysHistory : ImageContents → List PlannedLeg → Result MachineState ReplayFault → Type 0
ReplaysHistory image legs result =
    (history : GuestHistory) (store : StoreView) (position : Position) → IsStore store → IsHonestStoreOf image history store →
    ArePlanned store position legs →
    MatchResult result
    (λ m.
    view (hardware image.pages) m ≡ machine_of image history position.term (count_at position.counts))
    (λ fault. (fault ≡ OtherGuest) ⊎ (fault ≡ Memory))
