-- What a log is mended to, and why it is not.
use Rattle.std.specs.Prelude.{◌≡◌, ◌⊎◌, ℕ, List, [], ◌∷◌, ◌++◌, length, take, drop, Contains, Option}
use Rattle.ft_types.specs.Guests.{GuestParts}
use Rattle.fragment_codec.specs.declared.fault.FrameFault.{FrameFault}
use Rattle.fragment_codec.specs.declared.frame.Frame.{Frame}
use Rattle.fragment_codec.specs.Streams.{Splits}
use Rattle.log_join.specs.Answers.{answer_to}
use Rattle.log_join.specs.Coming.{IsJoinOf}
use Rattle.log_join.specs.Stores.{StoreView}
use Rattle.stations.specs.Logs.{IsFrontOf}
use Rattle.stations.specs.declared.faults.FilesFault.{FilesFault}
use Rattle.stations.specs.declared.faults.FilesFault.TheVariants.{Memory as NoMemory}
use Rattle.log_mending.specs.Gathering.{put_of}
use Rattle.log_mending.specs.declared.faults.MendFault.{MendFault}
use Rattle.log_mending.specs.declared.faults.MendFault.TheVariants.{Files, Behind, Own, Other}
use Rattle.log_mending.specs.declared.faults.Misfit.{Misfit}

-- ---- bytes at fault

-- a whole right frame stands at the front
abbrev pub HasFrame : List ℕ → Type 0
HasFrame bytes = (frame : Frame) × (rest : List ℕ) × Splits bytes (frame ∷ []) rest

-- none stands anywhere
abbrev pub HasNoFrames : List ℕ → Type 0
HasNoFrames bytes = (at : ℕ) → HasFrame (drop at bytes) → ⊥

-- ---- other keepers' logs

-- all frames at the front of the log
abbrev pub AreFrontOf : List ℕ → List Frame → Type 0
AreFrontOf log frames = (size : ℕ) × (fault : Option FrameFault) × IsFrontOf log frames size fault

-- all frames at the fronts of the logs, one log behind the other
abbrev pub AreFronts : List (List ℕ) → List Frame → Type 0
AreFronts [] frames = frames ≡ []
AreFronts (log ∷ logs) frames = (first more : List Frame) × (frames ≡ first ++ more) × AreFrontOf log first × AreFronts logs more

-- ---- a log that is mended

-- Behind the front of a log, which is its own frames, the bytes are some of the frames that were given, and the others added nothing: the store of all that
-- was given is that of the log behind it.
pub record IsFilled (guest : GuestParts) (front : List ℕ) (own given : List Frame) (added : List ℕ) (store : StoreView) : Type 0 where
  pub more : List Frame
  pub some : (f : Frame) → Contains more f → Contains given f
  pub splits : Splits (front ++ added) (own ++ more) []
  pub same : IsJoinOf guest (own ++ more) store
  pub all : IsJoinOf guest (own ++ given) store

-- The log keeps its first bytes, which are all its frames: no frame stands anywhere behind them. The bytes are added to these: then the log is whole frames,
-- and its store is the join of its own frames and those at the fronts of the other logs.
pub record IsMended (guest : GuestParts) (log : List ℕ) (others : List (List ℕ)) (size : ℕ) (added : List ℕ) : Type 0 where
  pub own : List Frame
  pub fault : Option FrameFault
  pub front : IsFrontOf log own size fault
  pub nothing_behind : HasNoFrames (drop size log)
  pub given : List Frame
  pub fronts : AreFronts others given
  pub store : StoreView
  pub filled : IsFilled guest (take size log) own given added store

-- A log with nothing in it is filled with frames of other logs, which are frames to their ends: with some of them, of which the others are repetitions.
pub record IsWholeLog (guest : GuestParts) (others : List (List ℕ)) (bytes : List ℕ) : Type 0 where
  pub given : List Frame
  pub fronts : AreFronts others given
  pub frames : List Frame
  pub splits : Splits bytes frames []
  pub some : (f : Frame) → Contains frames f → Contains given f
  pub store : StoreView
  pub same : IsJoinOf guest frames store
  pub all : IsJoinOf guest given store

-- the first of these frames that the store of those before it does not take
pub record IsUnfit (guest : GuestParts) (frames : List Frame) (misfit : Misfit) : Type 0 where
  pub before : List Frame
  pub frame : Frame
  pub behind : List Frame
  pub parts : frames ≡ before ++ frame ∷ behind
  pub store : StoreView
  pub join : IsJoinOf guest before store
  pub answer : answer_to store frame ≡ put_of misfit

-- a frame of the other log of this number does not go with the log's own frames, those of the logs before it, and those before it there
pub record IsUnfitIn (guest : GuestParts) (own : List Frame) (others : List (List ℕ)) (number : ℕ) (misfit : Misfit) : Type 0 where
  pub earlier : List (List ℕ)
  pub other : List ℕ
  pub later : List (List ℕ)
  pub parts : others ≡ earlier ++ other ∷ later
  pub is : length earlier ≡ number
  pub given : List Frame
  pub fronts : AreFronts earlier given
  pub frames : List Frame
  pub front : AreFrontOf other frames
  pub unfit : IsUnfit guest (own ++ (given ++ frames)) misfit

-- why a log that was read is not mended
abbrev pub IsNotMended : GuestParts → List ℕ → List (List ℕ) → MendFault → Type 0
IsNotMended guest log others (Files fault) = fault ≡ NoMemory
IsNotMended guest log others Behind =
    (own : List Frame) × (size : ℕ) × (fault : Option FrameFault) × IsFrontOf log own size fault × (at : ℕ) × HasFrame (drop at (drop size log))
IsNotMended guest log others (Own misfit) = (own : List Frame) × AreFrontOf log own × IsUnfit guest own misfit
IsNotMended guest log others (Other number misfit) = (own : List Frame) × AreFrontOf log own × IsUnfitIn guest own others number misfit
