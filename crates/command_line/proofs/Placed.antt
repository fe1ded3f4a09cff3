-- From the store of the streams' frames to the machine at a place.
use Rattle.std.proofs.Common.{◌≡◌, ◌≢◌, ℕ, List, Option, Result, Ok, Err, IfErr, refl, sym, subst, inl}
use Rattle.ft_types.specs.Devices.{Writes}
use Rattle.ft_types.specs.declared.errors.Failed.{Failed}
use Rattle.ft_types.specs.Guests.{GuestParts}
use Rattle.log_join.specs.Stores.{StoreView}
use Rattle.guest_image.specs.Image.{ImageContents, guest_of}
use Rattle.guest_image.specs.Machine.{MachineState, boot_machine}
use Rattle.hart_replay.specs.declared.plans.PlannedLeg.{PlannedLeg}
use Rattle.plan_lines.specs.Line.{LineView}
use Rattle.log_streams.specs.Outcome.{ArePlannedTo}
use Rattle.guest_image.specs.Text.{machine_text}
use Rattle.hart_replay.specs.declared.fault.ReplayFault.{ReplayFault}
use Rattle.hart_replay.specs.declared.fault.ReplayFault.TheVariants.{Cyclic, HaltedInside, OtherGuest, Memory as NoMemory}
use Rattle.log_streams.specs.declared.faults.StreamsFault.{StreamsFault}
use Rattle.log_streams.specs.declared.faults.StreamsFault.TheVariants.{Write}
use Rattle.log_streams.specs.Streams.{OfStreams, AreJoined}
use Rattle.log_streams.specs.Writing.{WritesOne}
use Rattle.log_streams.proofs.Lifted.{streams_to}
use Rattle.command_line.specs.declared.words.Place.{Place}
use Rattle.command_line.specs.declared.faults.CommandFault.{CommandFault}
use Rattle.command_line.specs.declared.faults.CommandFault.TheVariants.{Usage, File, Image, Script, Events, World, Uncovered, Streams, NoStep, Input, Live, Memory}
use Rattle.command_line.specs.Writing.{as_told}
use Rattle.command_line.specs.Audits.{replay_fault}
use Rattle.command_line.specs.LookingBack.{HasNoCutAt, HasNoCutOf, IsTextOf, IsLineOf, IfNoStep}

-- a replay's fault says nothing of a place
pub replay_is_elsewhere : (fault : ReplayFault) (P : Place → Type 0) → IfNoStep (replay_fault fault) P
replay_is_elsewhere (Cyclic counts) P = tt
replay_is_elsewhere (HaltedInside hart count) P = tt
replay_is_elsewhere OtherGuest P = tt
replay_is_elsewhere NoMemory P = tt

-- nor of a writer
pub replay_is_unwritten : (fault : ReplayFault) → replay_fault fault ≢ Streams Write
replay_is_unwritten (Cyclic counts) is = cc
replay_is_unwritten (HaltedInside hart count) is = cc
replay_is_unwritten OtherGuest is = cc
replay_is_unwritten NoMemory is = cc

-- the machine's text was written, or a beginning of it
pub text_told : (P : MachineState → Type 0) (machine : MachineState) (r : Result (Unit {0}) Failed) (old new : Option (List ℕ)) (f g : ℕ) → P machine →
    Writes r old new f g (machine_text machine) → WritesOne (Streams Write) (IsTextOf P) (as_told r) old new f g
text_told P machine (Ok x) old new f g p t = inl (machine_text machine, (machine, p, refl), tt, t)
text_told P machine (Err e) old new f g p t = inl (machine_text machine, (machine, p, refl), refl, t)

-- what came of writing is of no place
pub told_is_elsewhere : (r : Result (Unit {0}) Failed) (P : Place → Type 0) → IfErr (as_told r) (λ f. IfNoStep f P)
told_is_elsewhere (Ok x) P = tt
told_is_elsewhere (Err e) P = tt

-- ---- of streams

place_of : (image : ImageContents) (store : StoreView) (place : Place) (streams : List (List ℕ)) (f : CommandFault) → AreJoined (guest_of image) streams store →
    IfNoStep f (λ other. (other ≡ place) × HasNoCutAt image store place) → IfNoStep f (λ other. (other ≡ place) × HasNoCutOf image streams place)
place_of image store place streams (NoStep other) j h = (h.0, (store, j, h.1))
place_of image store place streams Usage j h = tt
place_of image store place streams (File x) j h = tt
place_of image store place streams (Image x) j h = tt
place_of image store place streams (Script n) j h = tt
place_of image store place streams (Events n) j h = tt
place_of image store place streams (World n x) j h = tt
place_of image store place streams (Uncovered page one other) j h = tt
place_of image store place streams (Streams x) j h = tt
place_of image store place streams Input j h = tt
place_of image store place streams (Live n) j h = tt
place_of image store place streams Memory j h = tt

pub joined_place : (image : ImageContents) (guest : GuestParts) (lefts : List (Option (List ℕ))) (store : StoreView) (place : Place)
    (r : Result (Unit {0}) CommandFault) → guest ≡ guest_of image → OfStreams lefts (λ streams. AreJoined guest streams store) →
    IfErr r (λ f. IfNoStep f (λ other. (other ≡ place) × HasNoCutAt image store place)) →
    IfErr r (λ f. OfStreams lefts (λ streams. IfNoStep f (λ other. (other ≡ place) × HasNoCutOf image streams place)))
joined_place image guest lefts store place (Ok x) is joined h = tt
joined_place image guest lefts store place (Err f) is joined h =
    streams_to (λ streams. AreJoined guest streams store) (λ streams. IfNoStep f (λ other. (other ≡ place) × HasNoCutOf image streams place)) lefts
    (λ streams j. place_of image store place streams f (subst (λ (x : GuestParts). AreJoined x streams store) is j) h) joined

-- the line of the store's plan is that of the streams' frames
pub joined_line : (image : ImageContents) (guest : GuestParts) (lefts : List (Option (List ℕ))) (store : StoreView) (legs : List PlannedLeg) (line : LineView) →
    guest ≡ guest_of image → OfStreams lefts (λ streams. AreJoined guest streams store) → ArePlannedTo store legs → line.legs ≡ legs →
    line.start ≡ boot_machine image → line.stands.moment ≡ 0 → OfStreams lefts (λ streams. IsLineOf image streams line)
joined_line image guest lefts store legs line is joined planned same start begins =
    streams_to (λ streams. AreJoined guest streams store) (λ streams. IsLineOf image streams line) lefts
    (λ streams j. (store, subst (λ (x : GuestParts). AreJoined x streams store) is j, subst (λ (l : List PlannedLeg). ArePlannedTo store l) (sym same) planned, start, begins))
    joined
