-- What is done with a keeper's disk, call by call.
use Rattle.std.specs.Prelude.{◌≡◌, ℕ, Bool, true, false, List, [], ◌∷◌, ◌++◌}
use Rattle.std.specs.List.{AllByRecursion}
use Rattle.ft_types.specs.Guests.{GuestParts}
use Rattle.ft_types.specs.Text.{line}
use Rattle.wire.specs.Pairs.{keeps_text}
use Rattle.wire.specs.declared.keeps.Inode.{Inode}
use Rattle.wire.specs.declared.keeps.Keeps.{Keeps}
use Rattle.keeper_files.specs.declared.disk.Identity.{Identity}
use Rattle.keeper_files.specs.declared.disk.Part.{Part}
use Rattle.keeper_files.specs.declared.disk.Part.TheVariants.{Log, Fences}

-- a call, and what came of it; a Bool says whether it was done
pub data Deed : Type 0 where
  SawThere : Part → Bool → Deed  -- whether anything has that name
  Made : Part → Bool → Deed  -- the file of that name, which was not there, was made
  Opened : Part → Bool → Deed  -- the file of that name, which was there, was opened
  SyncedFolder : Bool → Deed  -- which files are there was brought to disk
  Locked : Part → Bool → Deed  -- no other process has its lock
  SawOwn : Identity → Deed  -- which file the open log is
  SawName : Identity → Deed  -- which file has the log's name
  SawFences : Identity → Deed  -- which file has the fences' name
  SawMark : Bool → Deed  -- whether there is the mark of a log that failed
  Marked : Bool → Deed  -- that mark was made
  Unmarked : Bool → Deed  -- that mark was removed
  ReadLog : List ℕ → Deed  -- all bytes of the open log
  ReadFences : List ℕ → Deed  -- all bytes of the file of the fences' name, none where there is none
  Unread : Deed  -- what was to be read or looked at was not
  Cut : ℕ → Bool → Deed  -- the open log was cut to so many bytes
  Appended : Part → List ℕ → Bool → Deed  -- these bytes were added, a beginning of what was to be where it was not done
  Synced : Part → Bool → Deed  -- what the open file has was brought to disk

abbrev pub IsSameFile : Identity → Identity → Type 0
IsSameFile a b = (a.device ≡ b.device) × (a.inode ≡ b.inode)

-- the file as it is known behind a new start of its machine
abbrev pub inode_of : Identity → Inode
inode_of i = record { number = i.inode; born = i.born }

-- a file was opened, and that it is there brought to disk
abbrev pub opening : Part → List Deed
opening part = Opened part true ∷ SyncedFolder true ∷ []

-- the log was looked at: it is the file of its name, and no log that failed
abbrev pub looking : Identity → Identity → List Deed
looking own named = SawOwn own ∷ SawName named ∷ SawMark false ∷ []

-- the fences of that name were looked at and read
abbrev pub reading : Identity → List ℕ → List Deed
reading fences bytes = SawFences fences ∷ ReadFences bytes ∷ []

-- a keeper's log was opened, locked and looked at, and its fences were read
abbrev pub opening_for_keeper : Identity → Identity → Identity → List ℕ → List Deed
opening_for_keeper own named fences bytes = Opened Log true ∷ SyncedFolder true ∷ Locked Log true ∷ (looking own named ++ reading fences bytes)

-- a log that is handed over was opened, its fences were opened and locked, and then the log was looked at and the fences were read
abbrev pub opening_for_hand : Identity → Identity → Identity → List ℕ → List Deed
opening_for_hand own named fences bytes =
    Opened Log true ∷ SyncedFolder true ∷ Opened Fences true ∷ SyncedFolder true ∷ Locked Fences true ∷ (looking own named ++ reading fences bytes)

-- the log has one name, and is the file of that name
abbrev pub IsOfOneName : Identity → Identity → Type 0
IsOfOneName own named = (own.links ≡ 1) × IsSameFile named own

-- ---- files that are made

-- log and fences were not there, and no mark of a log that failed; then they were made
abbrev pub making : Identity → Identity → List Deed
making log fences = SawThere Log false ∷ SawThere Fences false ∷ SawMark false ∷ Made Log true ∷ Made Fences true ∷ SawOwn log ∷ SawFences fences ∷ []

-- the same of files that are to be filled before anybody begins with them: they were marked as a log that failed, on disk, before there was one
abbrev pub making_marked : Identity → Identity → List Deed
making_marked log fences =
    SawThere Log false ∷ SawThere Fences false ∷ SawMark false ∷ Marked true ∷ SyncedFolder true ∷ Made Log true ∷ Made Fences true ∷ SawOwn log ∷ SawFences fences ∷
    []

-- they are filled, and the mark was removed, on disk
abbrev pub unmarking : List Deed
unmarking = Unmarked true ∷ SyncedFolder true ∷ []

-- the first line of the fences says whose they are, and both files and their folder were brought to disk
abbrev pub naming : GuestParts → Keeps → List Deed
naming guest keeps =
    Appended Fences (line (keeps_text guest keeps)) true ∷ Synced Log true ∷ Synced Fences true ∷ SyncedFolder true ∷ []

-- a call that changes nothing
abbrev pub ChangesNothing : Deed → Type 0
ChangesNothing (SawThere part is) = Unit {0}
ChangesNothing (SawMark is) = Unit {0}
ChangesNothing (Made part false) = Unit {0}
ChangesNothing deed = ⊥

-- none of these calls changes anything
abbrev pub ChangeNothing : List Deed → Type 0
ChangeNothing deeds = AllByRecursion ChangesNothing deeds
