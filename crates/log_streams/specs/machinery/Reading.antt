-- Reading streams into a store: private words.
use Rattle.std.specs.Prelude.{◌≡◌, ◌≢◌, ℕ, List, ◌∷◌, ◌++◌, Option}
use Rattle.std.specs.List.{AllByRecursion}
use Rattle.std.specs.Io.KnownBytes.{Consumes, IsAtEnd}
use Rattle.ft_types.specs.Guests.{GuestParts}
use Rattle.fragment_codec.specs.declared.frame.Frame.{Frame as LogFrame}
use Rattle.fragment_codec.specs.declared.fault.FrameFault.{FrameFault}
use Rattle.fragment_codec.specs.declared.fault.FrameFault.TheVariants.{Memory as NoMemory}
use Rattle.log_join.specs.Stores.{StoreView, guest_of}
use Rattle.log_join.specs.declared.answers.StoreFault.{StoreFault}
use Rattle.log_join.specs.declared.answers.StoreFault.TheVariants.{OtherGuest, Memory as NoRoom}
use Rattle.log_streams.specs.declared.faults.StreamsFault.{StreamsFault}
use Rattle.log_streams.specs.declared.faults.StreamsFault.TheVariants.{Frame, Guest, Memory}
use Rattle.log_streams.specs.Streams.{IsOf, Says, Breaks, HasForeign}
use Rattle.log_join.specs.Coming.{Come}
use Rattle.log_streams.specs.Faults.{IsFaultOfStream}

-- these frames of its guest came to the first store
pub record Takes (first : StoreView) (frames : List LogFrame) (store : StoreView) : Type 0 where
  pub own : AllByRecursion (IsOf first.guest) frames
  pub come : Come first frames store

-- why the frame was not taken
abbrev pub IsFaultOf : GuestParts → LogFrame → StoreFault → Type 0
IsFaultOf guest frame OtherGuest = guest_of frame ≢ guest
IsFaultOf guest frame NoRoom = Unit {0}

-- the frame stands among these behind frames of the guest, and is of another
pub record HasOther (guest : GuestParts) (frames : List LogFrame) : Type 0 where
  pub before : List LogFrame
  pub frame : LogFrame
  pub after : List LogFrame
  pub parts : frames ≡ before ++ frame ∷ after
  pub own : AllByRecursion (IsOf guest) before
  pub other : guest_of frame ≢ guest

-- why one of these frames was not taken
abbrev pub IsFaultAmong : GuestParts → List LogFrame → StoreFault → Type 0
IsFaultAmong guest frames OtherGuest = HasOther guest frames
IsFaultAmong guest frames NoRoom = Unit {0}

-- the fault of a stream for that of its frames
abbrev pub fault_at : ℕ → StoreFault → StreamsFault
fault_at number OtherGuest = Guest number
fault_at number NoRoom = Memory

-- the fault of a stream for the fault of a feed
abbrev pub fault_in : ℕ → FrameFault → StreamsFault
fault_in number NoMemory = Memory
fault_in number fault = Frame number fault

-- what a call that only takes frames may answer
abbrev pub IsPushFault : ℕ → GuestParts → List ℕ → StreamsFault → Type 0
IsPushFault number guest stream (Frame i fault) = (i ≡ number) × Breaks guest stream fault
IsPushFault number guest stream (Guest i) = (i ≡ number) × HasForeign guest stream
IsPushFault number guest stream Memory = Unit {0}
IsPushFault number guest stream _ = ⊥

-- the reader was read to its end, and its frames came to the store; old and new are its bytes before and after
pub record Told (first : StoreView) (old new : Option (List ℕ)) (store : StoreView) : Type 0 where
  pub read : List ℕ
  pub frames : List LogFrame
  pub consumed : Consumes old new read
  pub ended : IsAtEnd new
  pub says : Says first.guest read frames
  pub takes : Takes first frames store

-- the fault of what the reader gave
pub record Refused (number : ℕ) (guest : GuestParts) (old new : Option (List ℕ)) (f : StreamsFault) : Type 0 where
  pub read : List ℕ
  pub consumed : Consumes old new read
  pub fault : IsFaultOfStream number guest read f
