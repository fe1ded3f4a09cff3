-- What a replay of streams gives.
use Rattle.std.specs.Prelude.{◌≡◌, ℕ, List, Option, Result, Ok, Err}
use Rattle.ft_types.specs.Devices.{Writes}
use Rattle.log_join.specs.Stores.{StoreView}
use Rattle.ft_types.specs.declared.position.Position.{Position}
use Rattle.closed_cut.specs.Position.{IsPosition}
use Rattle.guest_image.specs.Image.{ImageContents, guest_of}
use Rattle.guest_image.specs.Machine.{MachineState}
use Rattle.guest_image.specs.Text.{machine_text}
use Rattle.hart_replay.specs.declared.plans.PlannedLeg.{PlannedLeg}
use Rattle.hart_replay.specs.declared.fault.ReplayFault.{ReplayFault}
use Rattle.hart_replay.specs.declared.fault.ReplayFault.TheVariants.{Cyclic, HaltedInside, OtherGuest, Memory as NoMemory}
use Rattle.hart_replay.specs.Laws.{ArePlanned}
use Rattle.hart_replay.specs.Replays.{IsAtLeg, IsCyclicAt, HaltsInsideAt, IsOutcome as LegsEndIn}
use Rattle.log_streams.specs.declared.faults.StreamsFault.{StreamsFault}
use Rattle.log_streams.specs.declared.faults.StreamsFault.TheVariants.{Replay, Write, Memory}
use Rattle.log_streams.specs.Streams.{AreJoined}
use Rattle.log_streams.specs.Faults.{IsFirstFault}

-- ---- a store

-- the legs are planned up to the store's position
pub record ArePlannedTo (store : StoreView) (legs : List PlannedLeg) : Type 0 where
  pub position : Position
  pub is_position : IsPosition store position
  pub planned : ArePlanned store position legs

-- schedules of the planned legs lead from the image's boot to the machine
abbrev pub IsOutcomeOf : ImageContents → StoreView → MachineState → Type 0
IsOutcomeOf image store machine = (legs : List PlannedLeg) × ArePlannedTo store legs × LegsEndIn image legs machine

-- why the legs lead to no machine
abbrev pub HaveNoEnd : ImageContents → List PlannedLeg → ReplayFault → Type 0
HaveNoEnd image legs (Cyclic counts) = IsAtLeg image legs (λ leg m. IsCyclicAt leg m counts)
HaveNoEnd image legs (HaltedInside hart count) = IsAtLeg image legs (λ leg m. HaltsInsideAt leg m hart count)
HaveNoEnd image legs OtherGuest = ⊥
HaveNoEnd image legs NoMemory = ⊥

-- the planned legs lead to no machine for this reason
abbrev pub HasNoOutcome : ImageContents → StoreView → ReplayFault → Type 0
HasNoOutcome image store fault = (legs : List PlannedLeg) × ArePlannedTo store legs × HaveNoEnd image legs fault

-- ---- streams

-- the machine that the join of the streams' frames leads to
abbrev pub IsOutcome : ImageContents → List (List ℕ) → MachineState → Type 0
IsOutcome image streams machine = (store : StoreView) × AreJoined (guest_of image) streams store × IsOutcomeOf image store machine

-- Only the fault Write comes with anything written, and with a failure of the writer: the text of a machine of which P holds
-- was written and nothing else, or a beginning of it. old and new are the writer's bytes before and after, f and g its
-- counts of failures.
abbrev pub WritesTextOf : {A : Type 0} → (MachineState → Type 0) → Result A StreamsFault → Option (List ℕ) → Option (List ℕ) → ℕ → ℕ → Type 0
WritesTextOf {A} P (Ok x) old new f g =
    (machine : MachineState) × P machine × Writes {A = A} {E = StreamsFault} (Ok x) old new f g (machine_text machine)
WritesTextOf {A} P (Err Write) old new f g =
    (machine : MachineState) × P machine × Writes {A = A} {E = StreamsFault} (Err Write) old new f g (machine_text machine)
WritesTextOf P (Err e) old new f g = (new ≡ old) × (g ≡ f)

-- What a fault says of the image and the streams: a fault of a stream is the first one in them, and a replay's is that of
-- the plan of their frames' join.
abbrev pub IsCause : ImageContents → List (List ℕ) → StreamsFault → Type 0
IsCause image streams (Replay fault) = (store : StoreView) × AreJoined (guest_of image) streams store × HasNoOutcome image store fault
IsCause image streams Write = Unit {0}
IsCause image streams Memory = Unit {0}
IsCause image streams fault = IsFirstFault 0 (guest_of image) streams fault

-- a fault of the replay of a store: a private word
abbrev pub IsReplayFault : ImageContents → StoreView → ReplayFault → Type 0
IsReplayFault image store NoMemory = Unit {0}
IsReplayFault image store fault = HasNoOutcome image store fault

-- a fault once the store is known: a private word
abbrev pub IsCauseIn : ImageContents → StoreView → StreamsFault → Type 0
IsCauseIn image store (Replay fault) = HasNoOutcome image store fault
IsCauseIn image store Write = Unit {0}
IsCauseIn image store Memory = Unit {0}
IsCauseIn image store _ = ⊥
