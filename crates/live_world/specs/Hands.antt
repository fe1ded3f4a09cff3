-- What was handed over.
use Rattle.std.specs.Prelude.{◌≡◌, ◌≤◌, ◌<◌, ◌+◌, ◌++◌, ℕ, List, [], None, Some}
use Rattle.std.specs.List.{AllByRecursion}
use Rattle.ft_types.specs.Guests.{GuestParts}
use Rattle.fragment_codec.specs.declared.frame.Frame.{Frame}
use Rattle.fragment_codec.specs.Streams.{IsPartial, Splits}
use Rattle.stations.specs.Handing.{IsHandedTo}
use Rattle.stations.specs.Logs.{IsFrontOf, IsOf}
use Rattle.stations.specs.declared.faults.FenceFault.{FenceFault}
use Rattle.stations.specs.declared.faults.FenceFault.TheVariants.{Files, Fenced, Far}
use Rattle.stations.specs.declared.faults.FilesFault.TheVariants.{Memory as NoMemory}
use Rattle.stations.specs.declared.faults.LogFault.{LogFault}
use Rattle.stations.specs.declared.faults.LogFault.TheVariants.{Files as FilesOfLog, Frame as FrameAt, OtherGuest, Clash}
use Rattle.stations.specs.declared.reach.TheConstants.{TERM_REACH}
use Rattle.live_world.specs.declared.hand.HandedTo.{HandedTo}
use Rattle.live_world.specs.Shelves.{ReadView}

-- the whole frames of the log that was read, behind the line that hands them over to the term
pub record HasHanded (guest : GuestParts) (keeper : ℕ) (read : ReadView) (handed : HandedTo) : Type 0 where
  pub of_keeper : handed.keeper ≡ keeper
  pub of_term : handed.term ≡ read.term
  pub bytes : List ℕ
  pub rest : List ℕ
  pub parts : read.log ≡ bytes ++ rest
  pub frames : List Frame
  pub splits : Splits bytes frames []
  pub partial : IsPartial rest
  pub line : IsHandedTo guest keeper read.term bytes handed.bytes.items

-- the term is not above the fence that was seen, or out of its reach
abbrev pub IsNotFencedOff : ℕ → ℕ → FenceFault → Type 0
IsNotFencedOff last term (Fenced fence) = (term ≤ last) × (fence ≡ last)
IsNotFencedOff last term (Far fence) = (last + TERM_REACH < term) × (fence ≡ last)
IsNotFencedOff last term (Files fault) = ⊥

-- the log that was read has this fault, or a frame of another guest; or memory was refused
abbrev pub IsNotRead : GuestParts → ReadView → LogFault → Type 0
IsNotRead guest read (FilesOfLog fault) = fault ≡ NoMemory
IsNotRead guest read (FrameAt fault) = (frames : List Frame) × (size : ℕ) × IsFrontOf read.log frames size (Some fault)
IsNotRead guest read OtherGuest =
    (frames : List Frame) × (size : ℕ) × IsFrontOf read.log frames size None × (AllByRecursion (IsOf guest) frames → ⊥)
IsNotRead guest read Clash = ⊥
