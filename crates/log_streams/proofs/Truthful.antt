-- Streams of honest frames.
use Rattle.std.proofs.Common.{◌≡◌, ◌⊎◌, ℕ, zero, suc, List, [], ◌∷◌, Option, inl, inr, Result, Ok, Err, ◌++◌, sym, ap, subst, ◌∙◌, Contains, arith}
use Rattle.std.specs.List.{AllByRecursion}
use Rattle.std.proofs.lemmas.List.Elements.{Contains-append_cases}
use Rattle.ft_types.specs.Guests.{GuestParts}
use Rattle.fragment_codec.specs.declared.frame.Frame.{Frame as LogFrame}
use Rattle.fragment_codec.specs.Streams.{IsFrame}
use Rattle.fragment_codec.proofs.streams.Readings.{one_stream}
use Rattle.fragment_codec.proofs.streams.Splits.{splits_frames}
use Rattle.log_join.specs.Stores.{StoreView, IsStore, guest_of as frame_guest}
use Rattle.log_join.proofs.Told.{openings_told, fragments_told}
use Rattle.log_join.proofs.Cells.{cells_join}
use Rattle.log_join.proofs.Gathered.{come_gathers, gathered_rules}
use Rattle.log_join.proofs.Families.{honest_gather}
use Rattle.guest_image.specs.Image.{ImageContents, guest_of}
use Rattle.guest_image.specs.Machine.{MachineState}
use Rattle.hart_replay.specs.declared.fault.ReplayFault.{ReplayFault}
use Rattle.hart_replay.specs.declared.fault.ReplayFault.TheVariants.{Cyclic, HaltedInside, OtherGuest, Memory as NoMemory}
use Rattle.hart_replay.specs.Images.{GuestHistory, AreHonestOf, IsHonestStoreOf}
use Rattle.hart_replay.proofs.honesty.Replays.{replays_history}
use Rattle.log_streams.specs.declared.faults.StreamsFault.{StreamsFault}
use Rattle.log_streams.specs.declared.faults.StreamsFault.TheVariants.{Read, Frame, Guest, Replay, Write, Memory}
use Rattle.log_streams.specs.Streams.{IsOf, SayAll, OfStreams, AreJoined}
use Rattle.log_streams.specs.Faults.{IsFirstFault}
use Rattle.log_streams.specs.Outcome.{IsOutcomeOf, IsOutcome, HasNoOutcome, IsCause, WritesTextOf}
use Rattle.log_streams.specs.Honest.{TellTruly, IsOfHistory, IsOfDevices}
use Rattle.log_streams.proofs.Outcomes.{writes_other, read_unwritten}
use Rattle.log_streams.proofs.Lifted.{streams_to}
use Rattle.log_streams.proofs.FirstFault.{right_streams}

-- ---- the frames of right streams

each_one : (P : LogFrame → Type 0) (frames : List LogFrame) → AllByRecursion P frames → (frame : LogFrame) → Contains frames frame → P frame
each_one P [] all frame (k, lt, is) = absurd (omega (arith, lt))
each_one P (x ∷ xs) all frame (zero, lt, is) = subst P is all.0
each_one P (x ∷ xs) all frame (suc k, lt, is) = each_one P xs all.1 frame (k, omega (arith, lt), is)

-- streams say one list of frames
pub said_once : (guest : GuestParts) (streams : List (List ℕ)) (fs gs : List LogFrame) → SayAll guest streams fs → SayAll guest streams gs → fs ≡ gs
said_once guest [] fs gs none nothing = none ∙ sym nothing
said_once guest (stream ∷ streams) fs gs (front, back, says, rest, are) (before, after, tells, others, is) =
    let one = (one_stream stream front before says.rest tells.rest says.splits tells.splits (inl says.partial) (inl tells.partial)).0 in
    are ∙ ap (λ (xs : List LogFrame). xs ++ back) one ∙ ap (λ (xs : List LogFrame). before ++ xs) (said_once guest streams back after rest others) ∙ sym is

-- they are right, and of the guest
each_said : (guest : GuestParts) (streams : List (List ℕ)) (frames : List LogFrame) → SayAll guest streams frames → (frame : LogFrame) →
    Contains frames frame → IsFrame frame × (frame_guest frame ≡ guest)
each_said guest [] frames none frame in_it =
    let c : Contains [] frame = subst (λ (fs : List LogFrame). Contains fs frame) none in_it in absurd (omega (arith, c.1))
each_said guest (stream ∷ streams) frames (front, back, says, rest, are) frame in_it =
    elim (Contains-append_cases front back frame (subst (λ (fs : List LogFrame). Contains fs frame) are in_it)) [
      | inl here ↦ (each_one IsFrame front (splits_frames stream says.rest front says.splits) frame here, each_one (IsOf guest) front says.own frame here)
      | inr there ↦ each_said guest streams back rest frame there
    ]

-- ---- their store

neither : (fault : ReplayFault) → (fault ≡ OtherGuest → ⊥) → (fault ≡ NoMemory → ⊥) → (fault ≡ OtherGuest) ⊎ (fault ≡ NoMemory) → ⊥
neither fault a b (inl e) = a e
neither fault a b (inr e) = b e

module _ (image : ImageContents) (history : GuestHistory) (streams : List (List ℕ)) (truly : TellTruly image history streams) (store : StoreView)
    (joined : AreJoined (guest_of image) streams store) where
  is_store : IsStore store
  is_store =
      gathered_rules (cells_join openings_told) (cells_join fragments_told) (guest_of image) joined.frames store
      (come_gathers (guest_of image) joined.frames store joined.joined)
      (λ frame in_it. (each_said (guest_of image) streams joined.frames joined.say frame in_it).0)
      (λ frame in_it. (each_said (guest_of image) streams joined.frames joined.say frame in_it).1)

  is_honest : IsHonestStoreOf image history store
  is_honest =
      let its = subst (AreHonestOf image history) (said_once (guest_of image) streams truly.frames joined.frames truly.say joined.say) truly.honest in
      record {
        is_history = its.is_history;
        honest = honest_gather _ history (guest_of image) joined.frames store (come_gathers (guest_of image) joined.frames store joined.joined) its.of_family;
      }

  of_history : (machine : MachineState) → IsOutcomeOf image store machine → IsOfHistory image history streams machine
  of_history machine (legs, planned, led) =
      record {
        store = store;
        joined = joined;
        position = planned.position;
        is_position = planned.is_position;
        is = replays_history image legs (Ok machine) led tt history store planned.position is_store is_honest planned.planned;
      }

  never : (fault : ReplayFault) → HasNoOutcome image store fault → ⊥
  never (Cyclic counts) (legs, planned, at) =
      neither (Cyclic counts) (λ e. cc) (λ e. cc)
      (replays_history image legs (Err (Cyclic counts)) tt at history store planned.position is_store is_honest planned.planned)
  never (HaltedInside hart count) (legs, planned, at) =
      neither (HaltedInside hart count) (λ e. cc) (λ e. cc)
      (replays_history image legs (Err (HaltedInside hart count)) tt at history store planned.position is_store is_honest planned.planned)
  never OtherGuest (legs, planned, at) = at
  never NoMemory (legs, planned, at) = at

-- ---- what is answered

module _ (image : ImageContents) (history : GuestHistory) (streams : List (List ℕ)) where
  pub writes_history : {A : Type 0} (r : Result A StreamsFault) (old new : Option (List ℕ)) (f g : ℕ) →
      WritesTextOf (IsOutcome image streams) r old new f g → TellTruly image history streams → WritesTextOf (IsOfHistory image history streams) r old new f g
  writes_history r old new f g w truly =
      writes_other (IsOutcome image streams) (IsOfHistory image history streams) r old new f g
      (λ machine o. of_history image history streams truly o.0 o.1 machine o.2) w

  pub devices_only : (f : StreamsFault) → IsCause image streams f → TellTruly image history streams → IsOfDevices f
  devices_only (Read i) cause truly = tt
  devices_only Write cause truly = tt
  devices_only Memory cause truly = tt
  devices_only (Replay fault) cause truly = never image history streams truly cause.0 cause.1 fault cause.2
  devices_only (Frame i fault) cause truly = right_streams 0 (guest_of image) streams truly.frames (Frame i fault) truly.say tt cause
  devices_only (Guest i) cause truly = right_streams 0 (guest_of image) streams truly.frames (Guest i) truly.say tt cause

-- a fault of reading, with which nothing is written
pub unwritten_history : (image : ImageContents) (history : GuestHistory) (guest : GuestParts) (lefts : List (Option (List ℕ))) (e : StreamsFault)
    (old : Option (List ℕ)) (f : ℕ) → OfStreams lefts (λ streams. IsFirstFault 0 guest streams e) →
    OfStreams lefts (λ streams. TellTruly image history streams → WritesTextOf (IsOfHistory image history streams)
    (let r : Result (Unit {0}) StreamsFault = Err e in r) old old f f)
unwritten_history image history guest lefts e old f h =
    let r : Result (Unit {0}) StreamsFault = Err e in
    streams_to (λ streams. WritesTextOf (IsOutcome image streams) r old old f f)
    (λ streams. TellTruly image history streams → WritesTextOf (IsOfHistory image history streams) r old old f f) lefts
    (λ streams w truly. writes_history image history streams r old old f f w truly) (read_unwritten image guest lefts e old f h)
