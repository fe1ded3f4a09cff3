-- Which part of the world of fencing a keeper's disk is.
use Rattle.std.specs.Prelude.{◌≡◌, ◌≤◌, ◌<◌, max, ℕ, List, [], ◌++◌, Contains, Option, Some}
use Rattle.ft_types.specs.Counts.{count_at}
use Rattle.ft_types.specs.declared.position.Position.{Position}
use Rattle.ft_types.specs.Guests.{GuestParts}
use Rattle.fragment_codec.specs.declared.frame.Frame.{Frame}
use Rattle.fragment_codec.specs.Streams.{IsStuck, Splits}
use Rattle.log_join.specs.Coming.{IsJoinOf}
use Rattle.log_join.specs.Stores.{StoreView, nothing}
use Rattle.stations.specs.Handshake.{IsBeginning}
use Rattle.fenced_theory.specs.Recorders.{Recorder}
use Rattle.fenced_theory.specs.Worlds.{Quorum, World, Happens}
use Rattle.keeper_disks.specs.Disks.{Phase, Away, HasRead, Rests, Adding, Synced, Hand, Nobody, Saw, HasFenced, Disk, Out, Nothing, Says, Hands, WereSent, Goes}

-- the bytes are frames, each of which was sent, and then this rest; the store is the join of the frames
pub record HasFrames (guest : GuestParts) (sent : List Frame) (bytes rest : List ℕ) (store : StoreView) : Type 0 where
  pub frames : List Frame
  pub splits : Splits bytes frames rest
  pub each : (f : Frame) → Contains frames f → Contains sent f
  pub join : IsJoinOf guest frames store

-- they are such frames, and no other one stands behind them
abbrev pub HasFront : GuestParts → List Frame → List ℕ → StoreView → Type 0
HasFront guest sent bytes store = (rest : List ℕ) × IsStuck rest × HasFrames guest sent bytes rest store

-- What a keeper knows of its log, and of what of it is safe: with what is to be added yet, the log is frames that were sent, and its store is their join.
abbrev pub Knows : GuestParts → List Frame → List ℕ → List ℕ → Phase → Type 0
Knows guest sent log safe Away = Unit {0}
Knows guest sent log safe (HasRead bytes) = bytes ≡ log
Knows guest sent log safe (Rests st) = HasFrames guest sent (log ++ st.fresh) [] st.store
Knows guest sent log safe (Adding st rest) = HasFrames guest sent (log ++ rest) [] st.store
Knows guest sent log safe (Synced st) = HasFrames guest sent log [] st.store × (safe ≡ log)

-- what whoever hands the log over knows of this fence, which is the last one
abbrev pub KnowsFence : ℕ → Hand → Type 0
KnowsFence fence Nobody = Unit {0}
KnowsFence fence (Saw last) = fence ≤ last
KnowsFence fence (HasFenced term) = (fence ≡ term) × (0 < term)

-- The keeper's store are the frames of its log, what it saved are those that are on disk, and its fence is the last one.
pub record IsSite (guest : GuestParts) (sent : List Frame) (has wrote : Option StoreView) (fence : ℕ) (d : Disk) : Type 0 where
  pub store : StoreView
  pub written : StoreView
  pub has_it : has ≡ Some store
  pub wrote_it : wrote ≡ Some written
  pub log : HasFront guest sent d.files.log store
  pub safe : HasFrames guest sent d.files.safe [] written
  pub begins : IsBeginning d.files.safe d.files.log
  pub fence_is : fence ≡ max 1 d.files.fence
  pub keeper : Knows guest sent d.files.log d.files.safe d.keeper
  pub hand : KnowsFence d.files.fence d.hand

abbrev pub StandsOn : {Book : Type 0} → GuestParts → World Book → ℕ → Disk → Type 0
StandsOn guest w keeper d = IsSite guest w.sent (w.stores keeper) (w.saved keeper) (w.fence keeper) d

-- what there is of a keeper is the same in both worlds
pub record IsSame {Book : Type 0} (w v : World Book) (keeper : ℕ) : Type 0 where
  pub stores : v.stores keeper ≡ w.stores keeper
  pub saved : v.saved keeper ≡ w.saved keeper
  pub fence : v.fence keeper ≡ w.fence keeper
  pub given : (u : ℕ) → v.given u keeper ≡ w.given u keeper
  pub acked : (u : ℕ) → v.acked u keeper ≡ w.acked u keeper

-- Nothing is another but what there is of this keeper; no acknowledgement of it is forgotten, nor what it gave to a term up to its fence, but where that
-- is to be handed over yet.
pub record OnlyKeeper {Book : Type 0} (w v : World Book) (keeper : ℕ) (d : Disk) : Type 0 where
  pub terms : v.terms ≡ w.terms
  pub sent : v.sent ≡ w.sent
  pub released : v.released ≡ w.released
  pub notes : v.notes ≡ w.notes
  pub marks : v.marks ≡ w.marks
  pub others : (k : ℕ) → (keeper ≡ k → ⊥) → IsSame w v k
  pub acked : (u hart : ℕ) → w.acked u keeper hart ≤ v.acked u keeper hart
  pub given : (u : ℕ) → u ≤ d.files.fence → (d.hand ≡ HasFenced u → ⊥) → v.given u keeper ≡ w.given u keeper

-- what was acknowledged is acknowledged there; what was handed over was given to the term
abbrev pub IsTold : {Book : Type 0} → GuestParts → World Book → ℕ → Out → Type 0
IsTold guest w keeper Nothing = Unit {0}
IsTold guest w keeper (Says p) = (hart : ℕ) → count_at p.counts hart ≤ w.acked p.term keeper hart
IsTold guest w keeper (Hands term frames) = (store : StoreView) × (w.given term keeper ≡ Some store) × HasFrames guest w.sent frames [] store

-- an empty disk
abbrev pub nothing_there : Disk
nothing_there = record { files = record { log = []; safe = []; fence = 0 }; keeper = Away; hand = Nobody }

abbrev pub DisksBegin : Type 0 → GuestParts → Type 0
DisksBegin Book guest =
    (w : World Book) (keeper : ℕ) → w.stores keeper ≡ Some (nothing guest) → w.saved keeper ≡ Some (nothing guest) → w.fence keeper ≡ 1 →
    StandsOn guest w keeper nothing_there

abbrev pub DisksStay : Type 0 → GuestParts → Type 0
DisksStay Book guest =
    (w v : World Book) (keeper : ℕ) (d : Disk) → StandsOn guest w keeper d → IsSame w v keeper →
    ((f : Frame) → Contains w.sent f → Contains v.sent f) → StandsOn guest v keeper d

-- a crash may leave the log as it is, or what is on disk alone
abbrev pub DisksCrash : Type 0 → GuestParts → Type 0
DisksCrash Book guest =
    (w : World Book) (keeper : ℕ) (d : Disk) → StandsOn guest w keeper d → WereSent w.sent d.files.log × WereSent w.sent d.files.safe

module _ {Book Fact : Type 0} (recorder : Recorder Book Fact) (guest : GuestParts) (quorum : Quorum) where
  -- events lead from one world to another
  pub data LeadsTo (w : World Book) : World Book → Type 0 where
    Same : LeadsTo w w
    Then : {v u : World Book} → LeadsTo w v → Happens recorder guest quorum v u → LeadsTo w u

  pub record IsFollowed (w : World Book) (keeper : ℕ) (d e : Disk) (out : Out) : Type 0 where
    pub world : World Book
    pub events : LeadsTo w world
    pub stands : StandsOn guest world keeper e
    pub only : OnlyKeeper w world keeper d
    pub told : IsTold guest world keeper out
    -- in no other term than that of what is said there is a new acknowledgement
    pub silent : (u hart : ℕ) → ((p : Position) → out ≡ Says p → p.term ≡ u → ⊥) → world.acked u keeper hart ≡ w.acked u keeper hart

  abbrev pub DisksGo : Type 0
  DisksGo =
      (w : World Book) (keeper : ℕ) (d e : Disk) (out : Out) → StandsOn guest w keeper d → Goes guest w.sent d e out → IsFollowed w keeper d e out
