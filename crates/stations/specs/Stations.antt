-- What a keeper over a log has, and what it acknowledges.
use Rattle.std.specs.Prelude.{◌≡◌, ◌⊎◌, ◌<◌, ◌≤◌, ◌+◌, max, ℕ, List, [], ◌∷◌, ◌++◌, take, Option, None, Some, option_map}
use Rattle.ft_types.specs.Guests.{GuestParts}
use Rattle.ft_types.specs.declared.position.Position.{Position}
use Rattle.fragment_codec.specs.declared.frame.Frame.{Frame}
use Rattle.fragment_codec.specs.declared.frame.Frame.TheVariants.{Log as Piece, Opening}
use Rattle.fragment_codec.specs.Streams.{Splits}
use Rattle.log_join.specs.Answers.{answer_to}
use Rattle.log_join.specs.Coming.{IsJoinOf}
use Rattle.log_join.specs.Stores.{StoreView}
use Rattle.log_join.specs.declared.answers.Put.{Put}
use Rattle.log_join.specs.declared.answers.Put.TheVariants.{Clash as Clashes, OtherGuest as Foreign}
use Rattle.closed_cut.specs.Position.{IsPosition}
use Rattle.wire.specs.declared.acknowledgements.Acknowledgement.{Acknowledgement}
use Rattle.stations.specs.Acts.{Act, SawLog, CutTo, Added, Synced, SawFence, Failed, Does}
use Rattle.stations.specs.Logs.{IsFrontOf, HasNoLog}
use Rattle.stations.specs.declared.faults.FilesFault.{FilesFault}
use Rattle.stations.specs.declared.faults.FilesFault.TheVariants.{Memory as NoMemory}
use Rattle.stations.specs.declared.faults.LogFault.{LogFault}
use Rattle.stations.specs.declared.faults.LogFault.TheVariants.{Files, Frame as FrameAt, OtherGuest, Clash}
use Rattle.stations.specs.declared.reach.TheConstants.{TERM_REACH}

pub record StationView : Type 0 where
  pub keeper : ℕ  -- its number
  pub store : StoreView
  pub fresh : List ℕ  -- the bytes of those of its frames that are not in the log yet
  pub seen : ℕ  -- the greatest fence that it saw, 0 where it saw none

-- the log and what is to be added to it are whole frames, and the store is the join of these
pub record IsOnLog (log : List ℕ) (station : StationView) : Type 0 where
  pub frames : List Frame
  pub splits : Splits (log ++ station.fresh) frames []
  pub join : IsJoinOf station.store.guest frames station.store

-- the frame opens a term that is out of reach of the last one that the keeper knows: the greatest fence that it saw, or the last term of its store's chain
abbrev pub IsFar : StationView → Frame → Type 0
IsFar station (Opening opening) = (p : Position) × IsPosition station.store p × (max station.seen p.top + TERM_REACH < opening.term)
IsFar station (Piece fragment) = ⊥

-- what is fresh is added to the log, then the log is brought to disk, and then the fence is read
abbrev pub logging : List ℕ → ℕ → List Act
logging fresh fence = Added fresh ∷ Synced ∷ SawFence fence ∷ []

-- why nothing was acknowledged: adding failed, and a beginning of what is fresh was added, and no more; or all of it was, and then the log was not brought
-- to disk or the fences were not read
abbrev pub IsNotLogged : List ℕ → (List Act → Type 0) → (List Act → Type 0) → FilesFault → Type 0
IsNotLogged fresh old new fault =
    ((front : List ℕ) × (rest : List ℕ) × (fresh ≡ front ++ rest) × Does old new (Added front ∷ Failed fault ∷ [])) ⊎
    (Does old new (Added fresh ∷ Failed fault ∷ []) ⊎ Does old new (Added fresh ∷ Synced ∷ Failed fault ∷ []))

-- the position of what is written down, of no term below the fence
pub record Acknowledges (written : StoreView) (fence : ℕ) (p : Position) : Type 0 where
  pub is : IsPosition written p
  pub above : fence ≤ p.term

-- the store's position is acknowledged, unless its term is 0 or below the fence
abbrev pub Answers : StoreView → ℕ → Option Position → Type 0
Answers store fence None = (p : Position) × IsPosition store p × (p.term < max 1 fence)
Answers store fence (Some p) = Acknowledges store (max 1 fence) p

-- a keeper's acknowledgement of a position
abbrev pub said_of : ℕ → Position → Acknowledgement
said_of keeper p = record { term = p.term; keeper = keeper; counts = p.counts }

-- the keeper says what it acknowledges of a store behind a fence, and nothing where that is nothing
abbrev pub AnswersAs : ℕ → StoreView → ℕ → Option Acknowledgement → Type 0
AnswersAs keeper store fence said = (position : Option Position) × Answers store fence position × (said ≡ option_map (said_of keeper) position)

-- the log was read, and cut behind its frames; the keeper of this number has these and no others
pub record IsBegun (guest : GuestParts) (keeper : ℕ) (old new : List Act → Type 0) (station : StationView) : Type 0 where
  pub log : List ℕ
  pub frames : List Frame
  pub size : ℕ
  pub front : IsFrontOf log frames size None
  pub acts : Does old new (SawLog log ∷ CutTo size ∷ [])
  pub own : station.keeper ≡ keeper
  pub same_guest : station.store.guest ≡ guest
  pub on_log : IsOnLog (take size log) station
  pub nothing_fresh : station.fresh ≡ []
  pub nothing_seen : station.seen ≡ 0

-- one of the frames met a store of those before it so
pub record IsMet (guest : GuestParts) (frames : List Frame) (put : Put) : Type 0 where
  pub before : List Frame
  pub frame : Frame
  pub behind : List Frame
  pub parts : frames ≡ before ++ frame ∷ behind
  pub store : StoreView
  pub join : IsJoinOf guest before store
  pub answer : answer_to store frame ≡ put

-- why no keeper begins: the log failed or memory was refused, the first fault of the log, or how one of its frames met those before it
abbrev pub IsNoKeepers : GuestParts → (List Act → Type 0) → (List Act → Type 0) → LogFault → Type 0
IsNoKeepers guest old new (Files fault) = HasNoLog old new fault ⊎ ((log : List ℕ) × Does old new (SawLog log ∷ Failed fault ∷ []))
IsNoKeepers guest old new (FrameAt fault) =
    (log : List ℕ) × (frames : List Frame) × (size : ℕ) × Does old new (SawLog log ∷ []) × IsFrontOf log frames size (Some fault)
IsNoKeepers guest old new OtherGuest =
    (log : List ℕ) × (frames : List Frame) × (size : ℕ) × Does old new (SawLog log ∷ []) × IsFrontOf log frames size None × IsMet guest frames Foreign
IsNoKeepers guest old new Clash =
    (log : List ℕ) × (frames : List Frame) × (size : ℕ) × Does old new (SawLog log ∷ []) × IsFrontOf log frames size None × IsMet guest frames Clashes

-- ---- private words

-- why a frame of a log was not put into the store
abbrev pub IsPutFault : StoreView → Frame → LogFault → Type 0
IsPutFault store frame OtherGuest = answer_to store frame ≡ Foreign
IsPutFault store frame Clash = answer_to store frame ≡ Clashes
IsPutFault store frame (Files fault) = fault ≡ NoMemory
IsPutFault store frame (FrameAt fault) = ⊥

-- why the frames of a log are no keeper's
abbrev pub IsBeginFault : GuestParts → List Frame → LogFault → Type 0
IsBeginFault guest frames OtherGuest = IsMet guest frames Foreign
IsBeginFault guest frames Clash = IsMet guest frames Clashes
IsBeginFault guest frames (Files fault) = fault ≡ NoMemory
IsBeginFault guest frames (FrameAt fault) = ⊥
