-- What an audit of streams of frames gives.
use Rattle.std.specs.Prelude.{◌≡◌, ℕ, List, ◌++◌, codes}
use Rattle.ft_types.specs.Text.{line}
use Rattle.log_join.specs.Stores.{StoreView}
use Rattle.guest_image.specs.Image.{ImageContents, guest_of}
use Rattle.guest_image.specs.Machine.{MachineState, boot_machine}
use Rattle.guest_image.specs.Text.{machine_text}
use Rattle.hart_replay.specs.declared.plans.PlannedLeg.{PlannedLeg}
use Rattle.hart_replay.specs.declared.fault.ReplayFault.{ReplayFault}
use Rattle.hart_replay.specs.declared.fault.ReplayFault.TheVariants.{Memory as NoMemory}
use Rattle.hart_replay.specs.Replays.{IsAtLeg}
use Rattle.log_audit.specs.declared.fault.AuditFault.{AuditFault}
use Rattle.log_audit.specs.declared.fault.AuditFault.TheVariants.{Uncovered as Unordered, Replay as NoReplay}
use Rattle.log_audit.specs.Coverage.{LegsAgree, IsUncoveredAt}
use Rattle.log_streams.specs.declared.faults.StreamsFault.TheVariants.{Replay, Write}
use Rattle.log_streams.specs.Streams.{AreJoined}
use Rattle.log_streams.specs.Outcome.{ArePlannedTo, HasNoOutcome, IsCause}
use Rattle.command_line.specs.declared.faults.CommandFault.{CommandFault}
use Rattle.command_line.specs.declared.faults.CommandFault.TheVariants.{Uncovered, Streams, Memory}

-- ---- a store

-- whatever schedules of the planned legs are taken, none is stuck, and they lead from the image's boot to this machine alone
abbrev pub IsAuditedOf : ImageContents → StoreView → MachineState → Type 0
IsAuditedOf image store machine = (legs : List PlannedLeg) × ArePlannedTo store legs × LegsAgree legs (boot_machine image) machine

-- nothing orders these two steps of a beginning of a schedule of a planned leg, which touch the page
abbrev pub HasUncovered : ImageContents → StoreView → ℕ → ℕ × ℕ → ℕ × ℕ → Type 0
HasUncovered image store page one other =
    (legs : List PlannedLeg) × ArePlannedTo store legs × IsAtLeg image legs (λ leg m. IsUncoveredAt leg m page one other)

-- the fault of a command for that of a replay, and for that of an audit
abbrev pub replay_fault : ReplayFault → CommandFault
replay_fault NoMemory = Memory
replay_fault fault = Streams (Replay fault)

abbrev pub fault_of : AuditFault → CommandFault
fault_of (Unordered page one other) = Uncovered page one other
fault_of (NoReplay fault) = replay_fault fault

-- why the audit of a store says no
abbrev pub IsAuditFault : ImageContents → StoreView → CommandFault → Type 0
IsAuditFault image store (Uncovered page one other) = HasUncovered image store page one other
IsAuditFault image store (Streams (Replay fault)) = HasNoOutcome image store fault
IsAuditFault image store Memory = Unit {0}
IsAuditFault image store fault = ⊥

-- ---- streams

-- the machine to which every schedule of the join of the streams' frames leads
abbrev pub IsAudited : ImageContents → List (List ℕ) → MachineState → Type 0
IsAudited image streams machine = (store : StoreView) × AreJoined (guest_of image) streams store × IsAuditedOf image store machine

-- What a fault says of the image and the streams: two steps that it names are of the plan of their frames' join; the others are those of a replay.
abbrev pub IsAuditCause : ImageContents → List (List ℕ) → CommandFault → Type 0
IsAuditCause image streams (Uncovered page one other) =
    (store : StoreView) × AreJoined (guest_of image) streams store × HasUncovered image store page one other
IsAuditCause image streams (Streams fault) = IsCause image streams fault
IsAuditCause image streams Memory = Unit {0}
IsAuditCause image streams fault = ⊥

-- the same once the store is known: a private word
abbrev pub IsAuditCauseIn : ImageContents → StoreView → CommandFault → Type 0
IsAuditCauseIn image store (Streams Write) = Unit {0}
IsAuditCauseIn image store fault = IsAuditFault image store fault

-- ---- texts

abbrev pub audit_text : MachineState → List ℕ
audit_text machine = line (codes "audit yes") ++ machine_text machine

-- the text says yes, and then the machine of which P holds
abbrev pub SaysYes : (MachineState → Type 0) → List ℕ → Type 0
SaysYes P text = (machine : MachineState) × P machine × (text ≡ audit_text machine)
