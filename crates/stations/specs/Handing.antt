-- What is fenced off and handed over of a log.
use Rattle.std.specs.Prelude.{◌≡◌, ◌⊎◌, ◌≤◌, ◌<◌, ◌+◌, ◌++◌, ℕ, List, [], ◌∷◌, length, Option, None, Some}
use Rattle.std.specs.List.{AllByRecursion}
use Rattle.ft_types.specs.Guests.{GuestParts}
use Rattle.ft_types.specs.Text.{line}
use Rattle.ft_types.specs.declared.names.TheConstants.{KEEPER_LIMIT}
use Rattle.fragment_codec.specs.declared.frame.Frame.{Frame}
use Rattle.fragment_codec.specs.Streams.{IsPartial, Splits}
use Rattle.wire.specs.Handed.{SaysHanded, handed_text}
use Rattle.wire.specs.declared.handed.Handed.{Handed}
use Rattle.stations.specs.Acts.{Act, SawLog, SawFence, Fenced, Failed, Does}
use Rattle.stations.specs.Logs.{IsFrontOf, IsOf, HasNoLog}
use Rattle.stations.specs.declared.faults.FenceFault.{FenceFault}
use Rattle.stations.specs.declared.faults.FenceFault.TheVariants.{Files as FilesOfFence, Fenced as WasFenced, Far}
use Rattle.stations.specs.declared.faults.LogFault.{LogFault}
use Rattle.stations.specs.declared.faults.LogFault.TheVariants.{Files, Frame as FrameAt, OtherGuest, Clash}
use Rattle.stations.specs.declared.reach.TheConstants.{TERM_REACH}

-- the log was read; these are all its frames, which are of the guest, and less than a whole one stood behind them
pub record IsHanded (guest : GuestParts) (old new : List Act → Type 0) (handed : List ℕ) : Type 0 where
  pub rest : List ℕ
  pub acts : Does old new (SawLog (handed ++ rest) ∷ [])
  pub frames : List Frame
  pub splits : Splits handed frames []
  pub own : AllByRecursion (IsOf guest) frames
  pub partial : IsPartial rest

-- the first line of the bytes hands a log over, and these stand behind it
pub record HasLine (guest : GuestParts) (bytes : List ℕ) (handed : Handed) (rest : List ℕ) : Type 0 where
  pub text : List ℕ
  pub one : AllByRecursion (λ b. b ≡ 10 → ⊥) text
  pub says : SaysHanded guest text handed
  pub parts : bytes ≡ line text ++ rest

-- the bytes are these frames of the keeper, behind the line that hands them over to the term; and whoever reads such a line from them reads this one, and
-- these frames behind it
pub record IsHandedTo (guest : GuestParts) (keeper term : ℕ) (frames bytes : List ℕ) : Type 0 where
  pub parts : bytes ≡ line (handed_text guest (record { term = term; keeper = keeper; length = length frames })) ++ frames
  pub read : keeper < KEEPER_LIMIT → (handed : Handed) (rest : List ℕ) → HasLine guest bytes handed rest →
      (handed ≡ record { term = term; keeper = keeper; length = length frames }) × (rest ≡ frames)

-- why a log is not fenced off: a term that is not above the last fence, or out of its reach, gets none; or the fences failed as they were read, or as this
-- one was added, which may be there then
abbrev pub IsNotFenced : ℕ → (List Act → Type 0) → (List Act → Type 0) → FenceFault → Type 0
IsNotFenced term old new (WasFenced last) = (term ≤ last) × Does old new (SawFence last ∷ [])
IsNotFenced term old new (Far last) = (last + TERM_REACH < term) × Does old new (SawFence last ∷ [])
IsNotFenced term old new (FilesOfFence fault) =
    Does old new (Failed fault ∷ []) ⊎ ((last : ℕ) × (last < term) × (term ≤ last + TERM_REACH) ×
    (Does old new (SawFence last ∷ Failed fault ∷ []) ⊎ Does old new (SawFence last ∷ Fenced term ∷ Failed fault ∷ [])))

-- why nothing is handed over: the log failed or memory was refused, the first fault of the log, or a frame of another guest
abbrev pub IsNotHanded : GuestParts → (List Act → Type 0) → (List Act → Type 0) → LogFault → Type 0
IsNotHanded guest old new (Files fault) = HasNoLog old new fault
IsNotHanded guest old new (FrameAt fault) =
    (log : List ℕ) × (frames : List Frame) × (size : ℕ) × Does old new (SawLog log ∷ []) × IsFrontOf log frames size (Some fault)
IsNotHanded guest old new OtherGuest =
    (log : List ℕ) × (frames : List Frame) × (size : ℕ) × Does old new (SawLog log ∷ []) × IsFrontOf log frames size None ×
    (AllByRecursion (IsOf guest) frames → ⊥)
IsNotHanded guest old new Clash = ⊥
