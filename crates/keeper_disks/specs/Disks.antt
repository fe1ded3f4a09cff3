-- A keeper's disk, and what is done with it, act by act: by a keeper that runs, by whoever hands its log over, and by crashes.
use Rattle.std.specs.Prelude.{◌≡◌, ◌≤◌, ◌<◌, max, ℕ, List, [], ◌++◌, take, Contains, Some, None}
use Rattle.ft_types.specs.Guests.{GuestParts}
use Rattle.ft_types.specs.declared.position.Position.{Position}
use Rattle.fragment_codec.specs.declared.frame.Frame.{Frame}
use Rattle.fragment_codec.specs.Streams.{spelling, IsFrame, IsPartial, Splits}
use Rattle.log_join.specs.Stores.{StoreView, IsJoin, alone}
use Rattle.stations.specs.Acts.{Act, SawLog, CutTo, Added, Synced as WasSynced, SawFence, Fenced}
use Rattle.stations.specs.Handshake.{Files, Did, Crash, after, IsBeginning}
use Rattle.stations.specs.Logs.{IsFrontOf}
use Rattle.stations.specs.Stations.{StationView, IsOnLog, Answers}

-- where a keeper's process stands
pub data Phase : Type 0 where
  Away : Phase  -- there is none
  HasRead : List ℕ → Phase  -- it begins, and the log had these bytes
  Rests : StationView → Phase  -- between two calls
  Adding : StationView → List ℕ → Phase  -- of what was fresh this rest is to be added yet
  Synced : StationView → Phase  -- all of it is on disk

-- where whoever hands the log over stands, and has the lock on the fences
pub data Hand : Type 0 where
  Nobody : Hand
  Saw : ℕ → Hand  -- this was the last fence
  HasFenced : ℕ → Hand  -- the fence of this term is put

pub record Disk : Type 0 where
  pub files : Files
  pub keeper : Phase
  pub hand : Hand

-- what others learn of an act
pub data Out : Type 0 where
  Nothing : Out
  Says : Position → Out  -- this is acknowledged
  Hands : (term : ℕ) (frames : List ℕ) → Out  -- these bytes are handed over to the term

-- the keeper behind a call that saw this fence
abbrev pub logged : StationView → ℕ → StationView
logged st fence = record st { fresh = []; seen = max st.seen fence }

-- what a keeper does with its files next; which calls of a disk an act is, keeper_files tells (`acts_of`). Behind one that failed it ends.
pub data Keeps (guest : GuestParts) (files : Files) : Phase → Act → Phase → Out → Type 0 where
  -- it begins with its log, and cuts that behind its frames
  Reads : Keeps guest files Away (SawLog files.log) (HasRead files.log) Nothing
  Begins : (log : List ℕ) (frames : List Frame) (size : ℕ) (st : StationView) → IsFrontOf log frames size None → IsOnLog (take size log) st →
      st.store.guest ≡ guest → st.fresh ≡ [] → Keeps guest files (HasRead log) (CutTo size) (Rests st) Nothing
  -- it adds what is fresh; others may see a beginning of that, up to any byte, and no more is there where it ends
  Adds : (st : StationView) (front rest : List ℕ) → st.fresh ≡ front ++ rest → Keeps guest files (Rests st) (Added front) (Adding st rest) Nothing
  AddsMore : (st : StationView) (front rest : List ℕ) → Keeps guest files (Adding st (front ++ rest)) (Added front) (Adding st rest) Nothing
  Syncs : (st : StationView) → Keeps guest files (Adding st []) WasSynced (Synced st) Nothing
  -- a fence may be seen before it is on disk
  Looks : (st : StationView) (fence : ℕ) → files.fence ≤ fence → Keeps guest files (Synced st) (SawFence fence) (Rests (logged st fence)) Nothing
  Acknowledges : (st : StationView) (fence : ℕ) (p : Position) → files.fence ≤ fence → Answers st.store (max st.seen fence) (Some p) →
      Keeps guest files (Synced st) (SawFence fence) (Rests (logged st fence)) (Says p)

-- what whoever hands the log over does with the files next
pub data Gives (files : Files) : Hand → Act → Hand → Out → Type 0 where
  Sees : (fence : ℕ) → files.fence ≤ fence → Gives files Nobody (SawFence fence) (Saw fence) Nothing
  Fences : (last term : ℕ) → last < term → Gives files (Saw last) (Fenced term) (HasFenced term) Nothing
  HandsOver : (term : ℕ) (bytes rest : List ℕ) (frames : List Frame) → files.log ≡ bytes ++ rest → Splits bytes frames [] → IsPartial rest →
      Gives files (HasFenced term) (SawLog files.log) Nobody (Hands term bytes)

-- each whole frame at the front of the bytes was sent
abbrev pub WereSent : List Frame → List ℕ → Type 0
WereSent sent bytes = (frames : List Frame) (rest : List ℕ) → Splits bytes frames rest → (f : Frame) → Contains frames f → Contains sent f

module _ (guest : GuestParts) (sent : List Frame) where
  -- what happens to the disk next
  pub data Goes (d : Disk) : Disk → Out → Type 0 where
    KeeperDoes : (act : Act) (next : Phase) (out : Out) → Keeps guest d.files d.keeper act next out →
        Goes d (record d { files = after d.files (Did act); keeper = next }) out
    HandDoes : (act : Act) (next : Hand) (out : Out) → Gives d.files d.hand act next out →
        Goes d (record d { files = after d.files (Did act); hand = next }) out
    -- the keeper takes a frame that was sent; one that is not new changes nothing
    Takes : (st : StationView) (f : Frame) (store : StoreView) → d.keeper ≡ Rests st → Contains sent f → IsFrame f → IsJoin st.store (alone f) store →
        Goes d (record d { keeper = Rests (record st { store = store; fresh = st.fresh ++ spelling f }) }) Nothing
    -- either process ends, wherever it stands
    KeeperEnds : Goes d (record d { keeper = Away }) Nothing
    HandEnds : Goes d (record d { hand = Nobody }) Nothing
    -- the machine crashes, or the log can't be brought to disk: what was on disk is there still, and behind it what was sent, or no frame; the keeper ends
    Crashes : (left : List ℕ) → IsBeginning d.files.safe left → WereSent sent left →
        Goes d (record d { files = after d.files (Crash left); keeper = Away }) Nothing
