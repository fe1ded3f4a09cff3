-- From the store of the streams' frames to what an audit of the streams gives.
use Rattle.std.proofs.Common.{◌≡◌, ◌≢◌, ℕ, List, Option, Result, Ok, Err, IfErr, refl, subst, inl}
use Rattle.ft_types.specs.Devices.{Writes}
use Rattle.ft_types.specs.Guests.{GuestParts}
use Rattle.ft_types.specs.declared.errors.Failed.{Failed}
use Rattle.log_join.specs.Stores.{StoreView}
use Rattle.guest_image.specs.Image.{ImageContents, guest_of}
use Rattle.guest_image.specs.Machine.{MachineState}
use Rattle.hart_replay.specs.declared.plans.PlannedLeg.{PlannedLeg}
use Rattle.hart_replay.specs.declared.fault.ReplayFault.TheVariants.{Cyclic, HaltedInside, OtherGuest, Memory as NoMemory}
use Rattle.hart_replay.specs.Replays.{IsAtLeg, IsCyclicAt, HaltsInsideAt}
use Rattle.log_audit.specs.declared.fault.AuditFault.{AuditFault}
use Rattle.log_audit.specs.declared.fault.AuditFault.TheVariants.{Uncovered as Unordered, Replay as NoReplay}
use Rattle.log_audit.specs.Coverage.{IsUncoveredAt}
use Rattle.log_audit.specs.Faults.{IfUncovered, IfCyclic, IfHaltedInside}
use Rattle.log_streams.specs.declared.faults.StreamsFault.{StreamsFault}
use Rattle.log_streams.specs.declared.faults.StreamsFault.TheVariants.{Read, Frame, Guest, Replay, Write, Memory as NoRoom}
use Rattle.log_streams.specs.Streams.{OfStreams, AreJoined}
use Rattle.log_streams.specs.Outcome.{ArePlannedTo}
use Rattle.log_streams.specs.Writing.{WritesOne}
use Rattle.log_streams.proofs.Lifted.{streams_to}
use Rattle.command_line.specs.declared.faults.CommandFault.{CommandFault}
use Rattle.command_line.specs.declared.faults.CommandFault.TheVariants.{Usage, File, Image, Script, Events, World, Uncovered, Streams, NoStep, Input, Live, Memory}
use Rattle.command_line.specs.Writing.{as_told}
use Rattle.command_line.specs.Audits.{IsAuditFault, IsAuditCause, IsAuditCauseIn, SaysYes, audit_text, fault_of}

-- the fault of an audit of planned legs
pub audit_fault : (image : ImageContents) (store : StoreView) (legs : List PlannedLeg) (fault : AuditFault) → ArePlannedTo store legs →
    fault ≢ NoReplay OtherGuest →
    IfUncovered fault (λ page one other. IsAtLeg image legs (λ leg m. IsUncoveredAt leg m page one other)) →
    IfCyclic fault (λ counts. IsAtLeg image legs (λ leg m. IsCyclicAt leg m counts)) →
    IfHaltedInside fault (λ hart count. IsAtLeg image legs (λ leg m. HaltsInsideAt leg m hart count)) → IsAuditFault image store (fault_of fault)
audit_fault image store legs (Unordered page one other) p ne uncovered cyclic halted = (legs, p, uncovered)
audit_fault image store legs (NoReplay (Cyclic counts)) p ne uncovered cyclic halted = (legs, p, cyclic)
audit_fault image store legs (NoReplay (HaltedInside hart count)) p ne uncovered cyclic halted = (legs, p, halted)
audit_fault image store legs (NoReplay OtherGuest) p ne uncovered cyclic halted = absurd (ne refl)
audit_fault image store legs (NoReplay NoMemory) p ne uncovered cyclic halted = tt

-- ---- once the store is known

-- the machine's text was written, or a beginning of it
pub yes_told : (P : MachineState → Type 0) (machine : MachineState) (r : Result (Unit {0}) Failed) (old new : Option (List ℕ)) (f g : ℕ) → P machine →
    Writes r old new f g (audit_text machine) → WritesOne (Streams Write) (SaysYes P) (as_told r) old new f g
yes_told P machine (Ok x) old new f g p t = inl (audit_text machine, (machine, p, refl), tt, t)
yes_told P machine (Err e) old new f g p t = inl (audit_text machine, (machine, p, refl), refl, t)

pub told_cause : (image : ImageContents) (store : StoreView) (r : Result (Unit {0}) Failed) → IfErr (as_told r) (λ fault. IsAuditCauseIn image store fault)
told_cause image store (Ok x) = tt
told_cause image store (Err e) = tt

-- the fault is not that of a writer
pub fault_unwritten : (image : ImageContents) (store : StoreView) (fault : CommandFault) → IsAuditFault image store fault → fault ≢ Streams Write
fault_unwritten image store fault h is = subst (λ (z : CommandFault). IsAuditFault image store z) is h

pub fault_cause : (image : ImageContents) (store : StoreView) (fault : CommandFault) → IsAuditFault image store fault → IsAuditCauseIn image store fault
fault_cause image store (Uncovered page one other) h = h
fault_cause image store Memory h = h
fault_cause image store (Streams (Replay x)) h = h
fault_cause image store (Streams Write) h = tt
fault_cause image store (Streams (Read i)) h = h
fault_cause image store (Streams (Frame i x)) h = h
fault_cause image store (Streams (Guest i)) h = h
fault_cause image store (Streams NoRoom) h = h
fault_cause image store Usage h = h
fault_cause image store (File x) h = h
fault_cause image store (Image x) h = h
fault_cause image store (Script n) h = h
fault_cause image store (Events n) h = h
fault_cause image store (World n x) h = h
fault_cause image store (NoStep place) h = h
fault_cause image store Input h = h
fault_cause image store (Live n) h = h

-- ---- of streams

cause_of : (image : ImageContents) (streams : List (List ℕ)) (store : StoreView) (fault : CommandFault) → AreJoined (guest_of image) streams store →
    IsAuditCauseIn image store fault → IsAuditCause image streams fault
cause_of image streams store (Uncovered page one other) j h = (store, j, h)
cause_of image streams store Memory j h = tt
cause_of image streams store (Streams (Replay x)) j h = (store, j, h)
cause_of image streams store (Streams Write) j h = tt
cause_of image streams store (Streams (Read i)) j h = absurd h
cause_of image streams store (Streams (Frame i x)) j h = absurd h
cause_of image streams store (Streams (Guest i)) j h = absurd h
cause_of image streams store (Streams NoRoom) j h = absurd h
cause_of image streams store Usage j h = absurd h
cause_of image streams store (File x) j h = absurd h
cause_of image streams store (Image x) j h = absurd h
cause_of image streams store (Script n) j h = absurd h
cause_of image streams store (Events n) j h = absurd h
cause_of image streams store (World n x) j h = absurd h
cause_of image streams store (NoStep place) j h = absurd h
cause_of image streams store Input j h = absurd h
cause_of image streams store (Live n) j h = absurd h

-- and its fault is the streams'
pub joined_cause : (image : ImageContents) (guest : GuestParts) (lefts : List (Option (List ℕ))) (store : StoreView) (fault : CommandFault) →
    guest ≡ guest_of image → OfStreams lefts (λ streams. AreJoined guest streams store) → IsAuditCauseIn image store fault →
    OfStreams lefts (λ streams. IsAuditCause image streams fault)
joined_cause image guest lefts store fault is h cause =
    streams_to (λ streams. AreJoined guest streams store) (λ streams. IsAuditCause image streams fault) lefts
    (λ streams j. cause_of image streams store fault (subst (λ (x : GuestParts). AreJoined x streams store) is j) cause) h

-- the fault of streams is told as it is
pub told_once : (x y : StreamsFault) → Streams x ≡ Streams y → x ≡ y
told_once x y is = cc
