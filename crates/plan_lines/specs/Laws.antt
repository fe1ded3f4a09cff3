-- What holds of each line.
use Rattle.std.specs.Prelude.{ℕ, ◌≡◌, ◌≢◌, ◌+◌, ◌≤◌, ◌⊎◌, List, [], Some, true, length, slice_get, slice_index, slice_index_or}
use Rattle.ft_types.specs.Counts.{count_at}
use Rattle.interleaving.specs.Log.{IsCut}
use Rattle.interleaving.specs.Stored.{view}
use Rattle.ft_types.specs.declared.position.Position.{Position}
use Rattle.edge_log.specs.EdgeLog.{IsLog}
use Rattle.log_join.specs.Stores.{StoreView, IsStore}
use Rattle.rv32_hart.specs.Hart.{Hart}
use Rattle.rv32_hart.specs.Hardware.{hardware}
use Rattle.rv32_hart.specs.Access.{in_ram, page_at, offset_at}
use Rattle.guest_image.specs.Image.{ImageContents, guest_of}
use Rattle.guest_image.specs.Machine.{MachineState, boot_machine}
use Rattle.hart_lease.specs.Runs.{counts_of}
use Rattle.hart_replay.specs.declared.plans.PlannedLeg.{PlannedLeg}
use Rattle.hart_replay.specs.Plans.{IsPlan, log_of}
use Rattle.hart_replay.specs.Replays.{IsOutcome}
use Rattle.hart_replay.specs.Leading.{AreAtEnds}
use Rattle.hart_replay.specs.Images.{GuestHistory, machine_of, IsHonestStoreOf}
use Rattle.hart_replay.specs.Laws.{ArePlanned}
use Rattle.plan_lines.specs.Line.{Standing, standing_at, Leads, IsAt, Steps}
use Rattle.plan_lines.specs.declared.access.Access.{Access}
use Rattle.plan_lines.specs.Uses.{HasByte, IsStepFrom, ReadsByte, WritesByte}

-- the byte of RAM at this address
abbrev pub byte_at : MachineState → ℕ → ℕ
byte_at m address = slice_index (slice_index_or m.pages (page_at address) []) (offset_at address)

-- at each moment there is one machine, whatever way the line was come along
abbrev pub OneMachine : Type 0
OneMachine =
    (legs : List PlannedLeg) (start : MachineState) (moment : ℕ) (one other : MachineState) → IsAt legs start moment one → IsAt legs start moment other →
    one ≡ other

-- the plan's line leads from the image's boot to this standing, in this leg, whose edges keep the rules of a log
pub record StandsOn (image : ImageContents) (legs : List PlannedLeg) (leg : PlannedLeg) (t : Standing) : Type 0 where
  pub plan : IsPlan (guest_of image) legs
  pub leads : Leads legs (standing_at (boot_machine image)) t
  pub found : slice_get legs t.place ≡ Some leg
  pub rules : IsLog leg.edges.start leg.edges.rows

-- the counts at each moment are a closed cut of the leg
abbrev pub CountsAreCuts : Type 0
CountsAreCuts =
    (image : ImageContents) (legs : List PlannedLeg) (leg : PlannedLeg) (t : Standing) → StandsOn image legs leg t →
    IsCut (log_of leg) (counts_of t.machine)

-- at the ends of the last leg the machine is an outcome of the plan, as each replay's
abbrev pub EndsAreOutcomes : Type 0
EndsAreOutcomes =
    (image : ImageContents) (legs : List PlannedLeg) (leg : PlannedLeg) (t : Standing) → StandsOn image legs leg t → length legs ≤ t.place + 1 →
    AreAtEnds t.machine leg.ends → IsOutcome image legs t.machine

-- so of honest frames it is there the history's machine at the position
abbrev pub EndsTellHistories : Type 0
EndsTellHistories =
    (image : ImageContents) (legs : List PlannedLeg) (leg : PlannedLeg) (t : Standing) → StandsOn image legs leg t → length legs ≤ t.place + 1 →
    AreAtEnds t.machine leg.ends → (history : GuestHistory) (store : StoreView) (position : Position) → IsStore store →
    IsHonestStoreOf image history store → ArePlanned store position legs →
    view (hardware image.pages) t.machine ≡ machine_of image history position.term (count_at position.counts)

-- and at each moment it is the history's machine at its counts, of the leg's term
abbrev pub MomentsTellHistories : Type 0
MomentsTellHistories =
    (image : ImageContents) (legs : List PlannedLeg) (leg : PlannedLeg) (t : Standing) → StandsOn image legs leg t → (history : GuestHistory)
    (store : StoreView) (position : Position) → IsStore store → IsHonestStoreOf image history store → ArePlanned store position legs →
    view (hardware image.pages) t.machine ≡ machine_of image history leg.term (counts_of t.machine)

-- A step changes no byte of RAM but those that it uses so: nothing that it writes is unseen.
abbrev pub WritesAreUsed : Type 0
WritesAreUsed =
    (image : ImageContents) (legs : List PlannedLeg) (t : Standing) (h : Hart) (access : Access) → Leads legs (standing_at (boot_machine image)) t →
    (step : IsStepFrom legs t h access) → (n : MachineState) → Steps step.leg t.machine step.hart n → (address : ℕ) →
    in_ram (length t.machine.pages) address ≡ true → byte_at n address ≢ byte_at t.machine address → WritesByte access address

-- the byte is one of the word at pc, or is read
abbrev pub IsSeen : Hart → Access → ℕ → Type 0
IsSeen h access address = HasByte (record { first = h.pc; length = 4 }) address ⊎ ReadsByte access address

-- the second machine is the first, but for bytes that the hart does not see
pub record IsAlikeFor (h : Hart) (access : Access) (m k : MachineState) : Type 0 where
  pub harts : k.harts ≡ m.harts
  pub pages : length k.pages ≡ length m.pages
  pub bytes : (address : ℕ) → in_ram (length m.pages) address ≡ true → IsSeen h access address → byte_at k address ≡ byte_at m address

-- And its hart comes out the same, whatever stands at bytes that it does not use so: nothing that it reads is unseen.
abbrev pub ReadsAreUsed : Type 0
ReadsAreUsed =
    (image : ImageContents) (legs : List PlannedLeg) (t : Standing) (h : Hart) (access : Access) → Leads legs (standing_at (boot_machine image)) t →
    (step : IsStepFrom legs t h access) → (k : MachineState) → IsAlikeFor h access t.machine k → (n o : MachineState) →
    Steps step.leg t.machine step.hart n → Steps step.leg k step.hart o → slice_get o.harts step.hart ≡ slice_get n.harts step.hart
