-- From the store of the streams' frames to what a replay of the streams gives.
use Rattle.std.proofs.Common.{◌≡◌, ◌≢◌, ℕ, List, map, Option, Some, Result, Ok, Err, IfErr, refl, subst}
use Rattle.ft_types.specs.Guests.{GuestParts}
use Rattle.log_join.specs.Stores.{StoreView}
use Rattle.guest_image.specs.Image.{ImageContents, guest_of}
use Rattle.guest_image.specs.Machine.{MachineState}
use Rattle.hart_replay.specs.declared.plans.PlannedLeg.{PlannedLeg}
use Rattle.hart_replay.specs.declared.fault.ReplayFault.{ReplayFault}
use Rattle.hart_replay.specs.declared.fault.ReplayFault.TheVariants.{Cyclic, HaltedInside, OtherGuest, Memory as NoMemory}
use Rattle.hart_replay.specs.Replays.{IsAtLeg, IsCyclicAt, HaltsInsideAt, IfCyclic, IfHaltedInside}
use Rattle.log_streams.specs.declared.faults.StreamsFault.{StreamsFault}
use Rattle.log_streams.specs.declared.faults.StreamsFault.TheVariants.{Read, Frame, Guest, Replay, Write, Memory}
use Rattle.log_streams.specs.Streams.{OfStreams, AreJoined}
use Rattle.log_streams.specs.Faults.{IsFirstFault, StandsInBytes, AnswersOnly}
use Rattle.log_streams.specs.Outcome.{ArePlannedTo, IsOutcomeOf, IsOutcome, WritesTextOf, IsCause, IsReplayFault, IsCauseIn}
use Rattle.log_streams.proofs.FirstFault.{no_replay, no_write, fault_only, joined_only}
use Rattle.log_streams.proofs.Lifted.{streams_to, streams_known, some_streams, never_streams}

-- a fault of a replay of planned legs
pub replay_cause : (image : ImageContents) (store : StoreView) (legs : List PlannedLeg) (fault : ReplayFault) → ArePlannedTo store legs → fault ≢ OtherGuest →
    IfCyclic fault (λ counts. IsAtLeg image legs (λ leg m. IsCyclicAt leg m counts)) →
    IfHaltedInside fault (λ hart count. IsAtLeg image legs (λ leg m. HaltsInsideAt leg m hart count)) → IsReplayFault image store fault
replay_cause image store legs (Cyclic counts) p ne cyclic halted = (legs, p, cyclic)
replay_cause image store legs (HaltedInside hart count) p ne cyclic halted = (legs, p, halted)
replay_cause image store legs OtherGuest p ne cyclic halted = absurd (ne refl)
replay_cause image store legs NoMemory p ne cyclic halted = tt

pub writes_other : {A : Type 0} (P Q : MachineState → Type 0) (r : Result A StreamsFault) (old new : Option (List ℕ)) (f g : ℕ) →
    ((m : MachineState) → P m → Q m) →
    WritesTextOf P r old new f g → WritesTextOf Q r old new f g
writes_other P Q (Ok x) old new f g to w = (w.0, to w.0 w.1, w.2)
writes_other P Q (Err Write) old new f g to w = (w.0, to w.0 w.1, w.2)
writes_other P Q (Err (Frame i x)) old new f g to w = w
writes_other P Q (Err (Guest i)) old new f g to w = w
writes_other P Q (Err (Read i)) old new f g to w = w
writes_other P Q (Err Memory) old new f g to w = w
writes_other P Q (Err (Replay x)) old new f g to w = w

-- what is written of a joined store is the streams' text
pub joined_written : {A : Type 0} (image : ImageContents) (guest : GuestParts) (lefts : List (Option (List ℕ))) (store : StoreView) (r : Result A StreamsFault)
    (old new : Option (List ℕ)) (f g : ℕ) →
    guest ≡ guest_of image → OfStreams lefts (λ streams. AreJoined guest streams store) → WritesTextOf (IsOutcomeOf image store) r old new f g →
    OfStreams lefts (λ streams. WritesTextOf (IsOutcome image streams) r old new f g)
joined_written image guest lefts store r old new f g is h w =
    streams_to (λ streams. AreJoined guest streams store) (λ streams. WritesTextOf (IsOutcome image streams) r old new f g) lefts
    (λ streams j. writes_other (IsOutcomeOf image store) (IsOutcome image streams) r old new f g
    (λ m o. (store, subst (λ (x : GuestParts). AreJoined x streams store) is j, o)) w) h

cause_of : (image : ImageContents) (streams : List (List ℕ)) (store : StoreView) (f : StreamsFault) → AreJoined (guest_of image) streams store →
    IsCauseIn image store f → IsCause image streams f
cause_of image streams store (Replay x) j h = (store, j, h)
cause_of image streams store Write j h = tt
cause_of image streams store Memory j h = tt
cause_of image streams store (Read i) j h = absurd h
cause_of image streams store (Frame i x) j h = absurd h
cause_of image streams store (Guest i) j h = absurd h

-- and its fault is the streams'
pub joined_cause : (image : ImageContents) (guest : GuestParts) (lefts : List (Option (List ℕ))) (store : StoreView) (f : StreamsFault) →
    guest ≡ guest_of image → OfStreams lefts (λ streams. AreJoined guest streams store) → IsCauseIn image store f →
    OfStreams lefts (λ streams. IsCause image streams f)
joined_cause image guest lefts store f is h cause =
    streams_to (λ streams. AreJoined guest streams store) (λ streams. IsCause image streams f) lefts
    (λ streams j. cause_of image streams store f (subst (λ (x : GuestParts). AreJoined x streams store) is j) cause) h

first_cause : (image : ImageContents) (streams : List (List ℕ)) (f : StreamsFault) → IsFirstFault 0 (guest_of image) streams f → IsCause image streams f
first_cause image streams (Frame i g) h = h
first_cause image streams (Guest i) h = h
first_cause image streams (Read i) h = h
first_cause image streams Memory h = tt
first_cause image streams (Replay x) h = absurd (no_replay 0 (guest_of image) streams x h)
first_cause image streams Write h = tt

-- a fault of reading is the streams'
pub read_cause : (image : ImageContents) (guest : GuestParts) (lefts : List (Option (List ℕ))) (f : StreamsFault) → guest ≡ guest_of image →
    OfStreams lefts (λ streams. IsFirstFault 0 guest streams f) → OfStreams lefts (λ streams. IsCause image streams f)
read_cause image guest lefts f is h =
    streams_to (λ streams. IsFirstFault 0 guest streams f) (λ streams. IsCause image streams f) lefts
    (λ streams k. first_cause image streams f (subst (λ (x : GuestParts). IsFirstFault 0 x streams f) is k)) h

-- where the streams have a fault, they are not joined
pub joined_answer : {A : Type 0} (image : ImageContents) (guest : GuestParts) (lefts : List (Option (List ℕ))) (store : StoreView) (r : Result A StreamsFault)
    (streams : List (List ℕ)) (f : StreamsFault) →
    guest ≡ guest_of image → lefts ≡ map Some streams → OfStreams lefts (λ streams. AreJoined guest streams store) → StandsInBytes f →
    IsFirstFault 0 (guest_of image) streams f → AnswersOnly r f
joined_answer image guest lefts store r streams f is known h in_bytes first =
    let j : AreJoined guest streams store = streams_known (λ x. AreJoined guest x store) streams (subst (λ x. OfStreams x (λ y. AreJoined guest y store)) known
    h) in
    joined_only image streams f in_bytes first r store (subst (λ (x : GuestParts). AreJoined x streams store) is j)

-- and the fault of reading is that one
pub read_answer : (image : ImageContents) (guest : GuestParts) (lefts : List (Option (List ℕ))) (e : StreamsFault) (streams : List (List ℕ)) (f : StreamsFault) →
    guest ≡ guest_of image → lefts ≡ map Some streams → OfStreams lefts (λ streams. IsFirstFault 0 guest streams e) → StandsInBytes f →
    IsFirstFault 0 (guest_of image) streams f →
    AnswersOnly (let r : Result (Unit {0}) StreamsFault = Err e in r) f
read_answer image guest lefts e streams f is known h in_bytes first =
    let k : IsFirstFault 0 guest streams e = streams_known (λ x. IsFirstFault 0 guest x e) streams (subst (λ x. OfStreams x (λ y. IsFirstFault 0 guest y e))
    known h) in
    fault_only image streams f in_bytes first e (subst (λ (x : GuestParts). IsFirstFault 0 x streams e) is k)

-- and nothing is written
pub read_unwritten : (image : ImageContents) (guest : GuestParts) (lefts : List (Option (List ℕ))) (e : StreamsFault) (old : Option (List ℕ)) (f : ℕ) →
    OfStreams lefts (λ streams. IsFirstFault 0 guest streams e) → OfStreams lefts (λ streams. WritesTextOf (IsOutcome image streams)
    (let r : Result (Unit {0}) StreamsFault = Err e in r) old old f f)
read_unwritten image guest lefts (Frame i x) old f h = some_streams (λ streams. WritesTextOf {A = Unit {0}} (IsOutcome image streams) (Err (Frame i x)) old old
    f f) lefts (λ streams. (refl, refl))
read_unwritten image guest lefts (Guest i) old f h = some_streams (λ streams. WritesTextOf {A = Unit {0}} (IsOutcome image streams) (Err (Guest i)) old old f f)
    lefts (λ streams. (refl, refl))
read_unwritten image guest lefts (Read i) old f h = some_streams (λ streams. WritesTextOf {A = Unit {0}} (IsOutcome image streams) (Err (Read i)) old old f f)
    lefts (λ streams. (refl, refl))
read_unwritten image guest lefts Memory old f h = some_streams (λ streams. WritesTextOf {A = Unit {0}} (IsOutcome image streams) (Err Memory) old old f f) lefts
    (λ streams. (refl, refl))
read_unwritten image guest lefts (Replay x) old f h = some_streams (λ streams. WritesTextOf {A = Unit {0}} (IsOutcome image streams) (Err (Replay x)) old old f
    f) lefts (λ streams. (refl, refl))
read_unwritten image guest lefts Write old f h = absurd (never_streams (λ streams. IsFirstFault 0 guest streams Write) lefts
    (λ streams k. no_write 0 guest streams k) h)

-- once the store is known, no reader fails
pub no_reader : {A : Type 0} (image : ImageContents) (store : StoreView) (r : Result A StreamsFault) (i : ℕ) → IfErr r (λ f. IsCauseIn image store f) →
    r ≡ Err (Read i) → ⊥
no_reader image store r i cause is = subst (λ x. IfErr x (λ f. IsCauseIn image store f)) is cause
