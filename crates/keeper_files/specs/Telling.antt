-- Which acts on a keeper's files the calls are that were made of its disk.
use Rattle.std.specs.Prelude.{◌≡◌, ◌⊎◌, ◌++◌, ℕ, Bool, true, false, List, [], ◌∷◌}
use Rattle.ft_types.specs.Guests.{GuestParts}
use Rattle.stations.specs.Acts.{Act, SawLog, CutTo, Added, Synced as WasSynced, SawFence, Fenced, Failed}
use Rattle.stations.specs.declared.faults.FilesFault.{FilesFault}
use Rattle.stations.specs.declared.faults.FilesFault.TheVariants.{Log as OfLog, Fences as OfFences, Moved, Memory}
use Rattle.wire.specs.Fences.{IsLastFence, added_fence}
use Rattle.keeper_files.specs.Deeds.{Deed, SyncedFolder, SawName, Marked, ReadLog, ReadFences, Unread, Cut, Appended, Synced, IsSameFile}
use Rattle.keeper_files.specs.declared.disk.Identity.{Identity}
use Rattle.keeper_files.specs.declared.disk.Part.TheVariants.{Log, Fences}

-- this file failed, or memory was refused
abbrev pub IsFaultOf : FilesFault → FilesFault → Type 0
IsFaultOf file fault = (fault ≡ file) ⊎ (fault ≡ Memory)

-- it was tried to mark the log as one that failed, and to bring that to disk
abbrev pub marking : Bool → Bool → List Deed
marking made kept = Marked made ∷ SyncedFolder kept ∷ []

-- These calls are these acts. A fence is seen behind a look that the open log is the file of its name still; and where a file can't be added to or brought to
-- disk the log is marked.
pub data IsTold (guest : GuestParts) (own : Identity) : List Deed → List Act → Type 0 where
  SeesLog : (bytes : List ℕ) → IsTold guest own (ReadLog bytes ∷ []) (SawLog bytes ∷ [])
  SeesNoLog : (fault : FilesFault) → IsFaultOf OfLog fault → IsTold guest own (Unread ∷ []) (Failed fault ∷ [])
  Cuts : (size : ℕ) → IsTold guest own (Cut size true ∷ []) (CutTo size ∷ [])
  CutsNot : (size : ℕ) (fault : FilesFault) → IsFaultOf OfLog fault → IsTold guest own (Cut size false ∷ []) (Failed fault ∷ [])
  Adds : (bytes : List ℕ) → IsTold guest own (Appended Log bytes true ∷ []) (Added bytes ∷ [])
  AddsNot : (front : List ℕ) (fault : FilesFault) (made kept : Bool) → IsFaultOf OfLog fault →
      IsTold guest own (Appended Log front false ∷ marking made kept) (Added front ∷ Failed fault ∷ [])
  Syncs : IsTold guest own (Synced Log true ∷ []) (WasSynced ∷ [])
  SyncsNot : (fault : FilesFault) (made kept : Bool) → IsFaultOf OfLog fault → IsTold guest own (Synced Log false ∷ marking made kept) (Failed fault ∷ [])
  SeesFence : (named : Identity) (bytes : List ℕ) (fence : ℕ) → IsSameFile named own → IsLastFence guest bytes fence →
      IsTold guest own (SawName named ∷ ReadFences bytes ∷ []) (SawFence fence ∷ [])
  SeesNoName : (fault : FilesFault) → IsTold guest own (Unread ∷ []) (Failed fault ∷ [])
  SeesAnother : (named : Identity) → (IsSameFile named own → ⊥) → IsTold guest own (SawName named ∷ []) (Failed Moved ∷ [])
  SeesNoFences : (named : Identity) (fault : FilesFault) → IsSameFile named own → IsFaultOf OfFences fault →
      IsTold guest own (SawName named ∷ Unread ∷ []) (Failed fault ∷ [])
  PutsFence : (term : ℕ) → IsTold guest own (Appended Fences (added_fence guest term) true ∷ Synced Fences true ∷ []) (Fenced term ∷ [])
  PutsNoFence : (front rest : List ℕ) (term : ℕ) (fault : FilesFault) (made kept : Bool) → added_fence guest term ≡ front ++ rest →
      IsFaultOf OfFences fault → IsTold guest own (Appended Fences front false ∷ marking made kept) (Failed fault ∷ [])
  PutsFenceNotForSure : (term : ℕ) (fault : FilesFault) (made kept : Bool) → IsFaultOf OfFences fault →
      IsTold guest own (Appended Fences (added_fence guest term) true ∷ Synced Fences false ∷ marking made kept) (Failed fault ∷ [])

-- All calls since the files were opened, and the acts that they are.
pub data Tells (guest : GuestParts) (own : Identity) : List Deed → List Act → Type 0 where
  Begins : (deeds : List Deed) → Tells guest own deeds []
  Then : (deeds more : List Deed) (acts next : List Act) → Tells guest own deeds acts → IsTold guest own more next → Tells guest own (deeds ++ more) (acts ++ next)

-- the acts that may be all that was done with the files, where these deeds may be all that was done with their disk
abbrev pub acts_of : GuestParts → Identity → (List Deed → Type 0) → List Act → Type 0
acts_of guest own deeds acts = (calls : List Deed) × deeds calls × Tells guest own calls acts
