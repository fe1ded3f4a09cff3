-- Of which pair what was handed over is.
use Rattle.std.specs.Prelude.{◌≡◌, ◌≢◌, ◌⊎◌, ◌++◌, ℕ, List, Option, IfSome}
use Rattle.std.specs.List.{AllByRecursion}
use Rattle.ft_types.specs.Guests.{GuestParts}
use Rattle.ft_types.specs.Text.{line}
use Rattle.ft_types.specs.declared.quorum.Quorum.{Quorum}
use Rattle.wire.specs.Pairs.{SaysPair}
use Rattle.wire.specs.declared.pairs.Pair.{Pair}
use Rattle.ends.specs.declared.faults.Fault.{Fault}
use Rattle.ends.specs.declared.faults.Fault.TheVariants.{Frames as WithFrames}
use Rattle.ends.specs.declared.faults.Frames.TheVariants.{Handed}
use Rattle.ends.specs.declared.faults.FramesFault.TheVariants.{Pair as OfPair, Quorum as OfQuorum}
use Rattle.leading.specs.Handed.{IsWhole}
use Rattle.leading.specs.declared.handed.HandedLog.{HandedLog}

-- the first line of the bytes names the pair, and rest stands behind it
pub record IsOfPair (guest : GuestParts) (pair : Pair) (bytes rest : List ℕ) : Type 0 where
  pub text : List ℕ
  pub one : AllByRecursion (λ b. b ≡ 10 → ⊥) text
  pub says : SaysPair guest text pair
  pub parts : bytes ≡ line text ++ rest

-- Why what was handed over with this number is refused: its first line names no pair, or one of another quorum, or of this one but not that of those before.
abbrev pub IsOtherPair : GuestParts → Quorum → Option Pair → ℕ → List ℕ → Fault → Type 0
IsOtherPair guest quorum before number bytes fault =
    ((fault ≡ WithFrames (Handed number) OfPair) × ((pair : Pair) (rest : List ℕ) → IsOfPair guest pair bytes rest → ⊥)) ⊎
    ((pair : Pair) × (rest : List ℕ) × IsOfPair guest pair bytes rest ×
    (((fault ≡ WithFrames (Handed number) OfQuorum) × (pair.quorum ≢ quorum)) ⊎
    ((fault ≡ WithFrames (Handed number) OfPair) × (pair.quorum ≡ quorum) × (IfSome before (λ earlier. pair ≡ earlier) → ⊥))))

-- the log is whole, and stood behind the line of this pair
abbrev pub IsBehind : GuestParts → Pair → HandedLog → Type 0
IsBehind guest pair log = (bytes : List ℕ) × (rest : List ℕ) × IsOfPair guest pair bytes rest × IsWhole guest rest log

-- each of the logs
abbrev pub AreOfPair : GuestParts → Pair → List HandedLog → Type 0
AreOfPair guest pair logs = AllByRecursion (IsBehind guest pair) logs
