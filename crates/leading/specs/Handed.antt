-- A log that was handed over, as bytes.
use Rattle.std.specs.Prelude.{◌≡◌, ◌≢◌, ℕ, List, [], ◌∷◌, ◌++◌, length}
use Rattle.ft_types.specs.Guests.{GuestParts}
use Rattle.fragment_codec.specs.declared.frame.Frame.{Frame}
use Rattle.fragment_codec.specs.Streams.{IsPartial, HasFault, Splits}
use Rattle.log_join.specs.Answers.{answer_to}
use Rattle.log_join.specs.Coming.{IsJoinOf}
use Rattle.log_join.specs.Stores.{StoreView}
use Rattle.log_join.specs.declared.answers.Put.{Put}
use Rattle.log_join.specs.declared.answers.Put.TheVariants.{Clash as Clashes, OtherGuest as Foreign}
use Rattle.stations.specs.Handing.{HasLine}
use Rattle.wire.specs.declared.handed.Handed.{Handed}
use Rattle.leading.specs.declared.handed.HandedFault.{HandedFault}
use Rattle.leading.specs.declared.handed.HandedFault.TheVariants.{Line, Length, Torn, Frame as FrameAt, OtherGuest, Clash, Memory}
use Rattle.leading.specs.declared.handed.HandedLog.{HandedLog}

-- the line, and as many bytes as it says, which are whole frames; the store is the join of these
pub record IsWhole (guest : GuestParts) (bytes : List ℕ) (log : HandedLog) : Type 0 where
  pub handed : Handed
  pub rest : List ℕ
  pub has : HasLine guest bytes handed rest
  pub all : length rest ≡ handed.length
  pub frames : List Frame
  pub splits : Splits rest frames []
  pub keeper : log.keeper ≡ handed.keeper
  pub term : log.term ≡ handed.term
  pub join : IsJoinOf guest frames log.store

-- the log of that keeper, for that term; its store is the join of these bytes' frames
pub record IsGiven (guest : GuestParts) (keeper term : ℕ) (sent : List ℕ) (log : HandedLog) : Type 0 where
  pub frames : List Frame
  pub by : log.keeper ≡ keeper
  pub to : log.term ≡ term
  pub splits : Splits sent frames []
  pub join : IsJoinOf guest frames log.store

-- one of the frames met a store of those before it so
pub record IsMet (guest : GuestParts) (frames : List Frame) (put : Put) : Type 0 where
  pub before : List Frame
  pub frame : Frame
  pub behind : List Frame
  pub parts : frames ≡ before ++ frame ∷ behind
  pub store : StoreView
  pub join : IsJoinOf guest before store
  pub answer : answer_to store frame ≡ put

-- why bytes are no whole frames of one store
abbrev pub IsStoreFault : GuestParts → List ℕ → HandedFault → Type 0
IsStoreFault guest bytes Torn =
    (front : List ℕ) × (rest : List ℕ) × (frames : List Frame) × (bytes ≡ front ++ rest) × Splits front frames [] × (rest ≢ []) × IsPartial rest
IsStoreFault guest bytes (FrameAt fault) =
    (front : List ℕ) × (rest : List ℕ) × (frames : List Frame) × (bytes ≡ front ++ rest) × Splits front frames [] × HasFault rest fault
IsStoreFault guest bytes OtherGuest = (frames : List Frame) × Splits bytes frames [] × IsMet guest frames Foreign
IsStoreFault guest bytes Clash = (frames : List Frame) × Splits bytes frames [] × IsMet guest frames Clashes
IsStoreFault guest bytes fault = fault ≡ Memory

-- why it is none: there is no line that says so, not as many bytes as it says, or these are no store
abbrev pub IsNotWhole : GuestParts → List ℕ → HandedFault → Type 0
IsNotWhole guest bytes Line = (handed : Handed) (rest : List ℕ) → HasLine guest bytes handed rest → ⊥
IsNotWhole guest bytes Length = (handed : Handed) × (rest : List ℕ) × HasLine guest bytes handed rest × (length rest ≢ handed.length)
IsNotWhole guest bytes Memory = Unit {0}
IsNotWhole guest bytes fault =
    (handed : Handed) × (rest : List ℕ) × HasLine guest bytes handed rest × (length rest ≡ handed.length) × IsStoreFault guest rest fault

-- ---- private words

-- why a frame was not put into the store
abbrev pub IsPutFault : StoreView → Frame → HandedFault → Type 0
IsPutFault store frame OtherGuest = answer_to store frame ≡ Foreign
IsPutFault store frame Clash = answer_to store frame ≡ Clashes
IsPutFault store frame fault = fault ≡ Memory

-- why the frames have no store
abbrev pub IsGatherFault : GuestParts → List Frame → HandedFault → Type 0
IsGatherFault guest frames OtherGuest = IsMet guest frames Foreign
IsGatherFault guest frames Clash = IsMet guest frames Clashes
IsGatherFault guest frames fault = fault ≡ Memory
