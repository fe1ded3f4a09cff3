-- What stands in a log file.
use Rattle.std.specs.Prelude.{◌≡◌, ◌⊎◌, ◌≤◌, ℕ, List, [], ◌∷◌, length, take, drop, Option, None, Some}
use Rattle.ft_types.specs.Guests.{GuestParts}
use Rattle.fragment_codec.specs.declared.fault.FrameFault.{FrameFault}
use Rattle.fragment_codec.specs.declared.frame.Frame.{Frame}
use Rattle.fragment_codec.specs.Streams.{IsPartial, HasFault, Splits}
use Rattle.log_join.specs.Stores.{guest_of}
use Rattle.stations.specs.Acts.{Act, SawLog, Failed, Does}
use Rattle.stations.specs.declared.faults.FilesFault.{FilesFault}
use Rattle.stations.specs.declared.faults.FilesFault.TheVariants.{Memory as NoMemory}

-- behind frames stands less than a whole one, or this fault
abbrev pub StandsBehind : List ℕ → Option FrameFault → Type 0
StandsBehind rest None = IsPartial rest
StandsBehind rest (Some fault) = HasFault rest fault

-- the first `size` bytes are these frames, and no frame stands behind them
pub record IsFrontOf (bytes : List ℕ) (frames : List Frame) (size : ℕ) (fault : Option FrameFault) : Type 0 where
  pub within : size ≤ length bytes
  pub splits : Splits (take size bytes) frames []
  pub behind : StandsBehind (drop size bytes) fault

-- a frame of the guest
abbrev pub IsOf : GuestParts → Frame → Type 0
IsOf guest frame = guest_of frame ≡ guest

-- the log is not there to be judged: reading it failed, or it was read, and memory was refused
abbrev pub HasNoLog : (List Act → Type 0) → (List Act → Type 0) → FilesFault → Type 0
HasNoLog old new fault = Does old new (Failed fault ∷ []) ⊎ ((log : List ℕ) × (fault ≡ NoMemory) × Does old new (SawLog log ∷ []))
