-- Which fault streams have.
use Rattle.std.specs.Prelude.{◌≡◌, ◌≢◌, ◌<◌, ◌+◌, ℕ, List, [], ◌∷◌, ◌⊎◌, Option, Result, Ok, Err}
use Rattle.std.specs.Io.KnownBytes.{Consumes}
use Rattle.ft_types.specs.Guests.{GuestParts}
use Rattle.ft_types.specs.Devices.{IsOneMore}
use Rattle.fragment_codec.specs.declared.frame.Frame.{Frame as LogFrame}
use Rattle.log_streams.specs.declared.faults.StreamsFault.{StreamsFault}
use Rattle.log_streams.specs.declared.faults.StreamsFault.TheVariants.{Read, Frame, Guest, Replay, Write, Memory}
use Rattle.log_streams.specs.Streams.{Says, Breaks, HasForeign}

-- a fault of the stream of this number, which is the first one that stands in it
abbrev pub IsFaultOfStream : ℕ → GuestParts → List ℕ → StreamsFault → Type 0
IsFaultOfStream number guest stream (Frame i fault) = (i ≡ number) × Breaks guest stream fault
IsFaultOfStream number guest stream (Guest i) = (i ≡ number) × HasForeign guest stream
IsFaultOfStream number guest stream (Read i) = i ≡ number
IsFaultOfStream number guest stream Memory = Unit {0}
IsFaultOfStream number guest stream (Replay fault) = ⊥
IsFaultOfStream number guest stream Write = ⊥

-- the first fault of the streams, which are counted from this number on: the streams before it have none
abbrev pub IsFirstFault : ℕ → GuestParts → List (List ℕ) → StreamsFault → Type 0
IsFirstFault number guest [] f = ⊥
IsFirstFault number guest (stream ∷ streams) f =
    IsFaultOfStream number guest stream f ⊎ ((frames : List LogFrame) × Says guest stream frames × IsFirstFault (number + 1) guest streams f)

-- a fault that stands in a stream's bytes
abbrev pub StandsInBytes : StreamsFault → Type 0
StandsInBytes (Frame i fault) = Unit {0}
StandsInBytes (Guest i) = Unit {0}
StandsInBytes _ = ⊥

-- this fault is the answer, unless a reader or memory failed before
abbrev pub AnswersOnly : {A : Type 0} → Result A StreamsFault → StreamsFault → Type 0
AnswersOnly (Ok x) f = ⊥
AnswersOnly (Err (Read i)) f = Unit {0}
AnswersOnly (Err Memory) f = Unit {0}
AnswersOnly (Err e) f = e ≡ f

-- the stream of this number is behind the one at fault
abbrev pub IsBehind : StreamsFault → ℕ → Type 0
IsBehind (Read i) number = i < number
IsBehind (Frame i fault) number = i < number
IsBehind (Guest i) number = i < number
IsBehind _ number = ⊥

-- the reader of this number failed once where the fault says so, and else never: g are its failures after, f before
abbrev pub Fails : ℕ → ℕ → ℕ → StreamsFault → Type 0
Fails number f g (Read i) = ((i ≡ number) × IsOneMore f g) ⊎ ((i ≢ number) × (g ≡ f))
Fails number f g _ = g ≡ f

-- what the reader gave, whose bytes are these before and after, is frames of the guest, and behind them stands no whole frame and no fault
pub record GaveRight (guest : GuestParts) (old new : Option (List ℕ)) : Type 0 where
  pub read : List ℕ
  pub consumed : Consumes old new read
  pub frames : List LogFrame
  pub says : Says guest read frames
