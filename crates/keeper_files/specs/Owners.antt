-- Whose a keeper's files are.
use Rattle.std.specs.Prelude.{◌≡◌, ◌≢◌, ℕ, List}
use Rattle.ft_types.specs.Guests.{GuestParts}
use Rattle.ft_types.specs.Text.{BeginsWithLine}
use Rattle.wire.specs.Pairs.{IsKeeps, keeps_text}
use Rattle.wire.specs.declared.keeps.Keeps.{Keeps}
use Rattle.wire.specs.declared.pairs.Pair.{Pair}
use Rattle.keeper_files.specs.Deeds.{inode_of}
use Rattle.keeper_files.specs.declared.disk.Identity.{Identity}
use Rattle.keeper_files.specs.declared.faults.OpenFault.{OpenFault}
use Rattle.keeper_files.specs.declared.faults.OpenFault.TheVariants.{OtherKeeper, OtherLog, OtherFences}

-- the keeper of the pair, with this log and these fences
abbrev pub keeps_of : ℕ → Pair → Identity → Identity → Keeps
keeps_of keeper pair log fences = record { keeper = keeper; pair = pair; log = inode_of log; fences = inode_of fences }

-- The files are those that were made for this keeper of the pair: the first line of the fences says so, and which file the log is, and which they are
-- themselves. So neither is another file than the one that was made: a copy, one that was restored, or another keeper's.
pub record AreKept (guest : GuestParts) (keeper : ℕ) (pair : Pair) (log fences : Identity) (bytes : List ℕ) : Type 0 where
  pub keeps : IsKeeps (keeps_of keeper pair log fences)
  pub rest : List ℕ
  pub first : BeginsWithLine bytes (keeps_text guest (keeps_of keeper pair log fences)) rest

-- why files of which such a line was read are not the keeper's
abbrev pub IsNotKept : Keeps → ℕ → Identity → Identity → OpenFault → Type 0
IsNotKept keeps keeper log fences OtherKeeper = keeps.keeper ≢ keeper
IsNotKept keeps keeper log fences OtherLog = (keeps.keeper ≡ keeper) × (keeps.log ≢ inode_of log)
IsNotKept keeps keeper log fences OtherFences = (keeps.keeper ≡ keeper) × (keeps.log ≡ inode_of log) × (keeps.fences ≢ inode_of fences)
IsNotKept keeps keeper log fences other = ⊥
