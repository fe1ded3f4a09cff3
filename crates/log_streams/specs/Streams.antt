-- What streams of frames say of a guest.
use Rattle.std.specs.Prelude.{◌≡◌, ◌≢◌, ℕ, List, [], ◌∷◌, ◌++◌, Option, None, Some}
use Rattle.std.specs.List.{AllByRecursion}
use Rattle.ft_types.specs.Guests.{GuestParts}
use Rattle.fragment_codec.specs.declared.fault.FrameFault.{FrameFault}
use Rattle.fragment_codec.specs.declared.frame.Frame.{Frame}
use Rattle.fragment_codec.specs.Streams.{IsPartial, HasFault, Splits}
use Rattle.log_join.specs.Stores.{StoreView, guest_of}
use Rattle.log_join.specs.Coming.{IsJoinOf}

-- ---- a stream

-- a frame of the guest
abbrev pub IsOf : GuestParts → Frame → Type 0
IsOf guest frame = guest_of frame ≡ guest

-- the stream is these frames of the guest, and behind them stands no whole frame and no fault
pub record Says (guest : GuestParts) (stream : List ℕ) (frames : List Frame) : Type 0 where
  pub rest : List ℕ
  pub splits : Splits stream frames rest
  pub partial : IsPartial rest
  pub own : AllByRecursion (IsOf guest) frames

-- behind frames of the guest stands this fault
pub record Breaks (guest : GuestParts) (stream : List ℕ) (f : FrameFault) : Type 0 where
  pub frames : List Frame
  pub rest : List ℕ
  pub splits : Splits stream frames rest
  pub own : AllByRecursion (IsOf guest) frames
  pub fault : HasFault rest f

-- behind frames of the guest stands this one
pub record GoesOnWith (guest : GuestParts) (stream : List ℕ) (frame : Frame) : Type 0 where
  pub frames : List Frame
  pub rest : List ℕ
  pub splits : Splits stream (frames ++ frame ∷ []) rest
  pub own : AllByRecursion (IsOf guest) frames

-- behind frames of the guest stands one of another guest
abbrev pub HasForeign : GuestParts → List ℕ → Type 0
HasForeign guest stream = (frame : Frame) × GoesOnWith guest stream frame × (guest_of frame ≢ guest)

-- ---- several streams

-- the streams are these frames of the guest, one stream's behind the other's
abbrev pub SayAll : GuestParts → List (List ℕ) → List Frame → Type 0
SayAll guest [] frames = frames ≡ []
SayAll guest (stream ∷ streams) frames =
    (front : List Frame) × (back : List Frame) × Says guest stream front × SayAll guest streams back × (frames ≡ front ++ back)

-- P of the stream that a reader has left, or of some stream where it does not tell
abbrev pub OfStream : Option (List ℕ) → (List ℕ → Type 0) → Type 0
OfStream None P = (stream : List ℕ) × P stream
OfStream (Some stream) P = P stream

-- P of the streams that readers have left
abbrev pub OfStreams : List (Option (List ℕ)) → (List (List ℕ) → Type 0) → Type 0
OfStreams [] P = P []
OfStreams (left ∷ others) P = OfStream left (λ stream. OfStreams others (λ streams. P (stream ∷ streams)))

-- ---- the store of frames

-- the store is the join of the streams' frames
pub record AreJoined (guest : GuestParts) (streams : List (List ℕ)) (store : StoreView) : Type 0 where
  pub frames : List Frame
  pub say : SayAll guest streams frames
  pub joined : IsJoinOf guest frames store
