-- What files in memory tell to contracts. Machinery: nothing here needs to be believed.
use Rattle.std.specs.Prelude.{◌≡◌, ◌++◌, Bool, true, false, List, [], ◌∷◌, Option, None, Some}
use Rattle.stations.specs.Acts.{Act, SawLog, CutTo, Synced, SawFence, Fenced}
use Rattle.keeper_disks.specs.Disks.{Hand, Nobody, Saw, HasFenced}
use Rattle.live_world.specs.Shelves.{ReadView, ShelfView}
use Rattle.live_world.specs.Passages.{Passes}

-- Files tell first how they stood, by acts of which each part can be read, and then what the keeper did. So whoever asks what was told behind what they stood
-- for learns from where they came.
abbrev pub hand_told : Hand → Act
hand_told Nobody = Synced
hand_told (Saw last) = SawFence last
hand_told (HasFenced term) = Fenced term

abbrev pub crash_told : Bool → Act
crash_told true = Synced
crash_told false = CutTo 0

abbrev pub read_told : Option ReadView → List Act
read_told None = Synced ∷ Synced ∷ []
read_told (Some read) = SawFence read.term ∷ SawLog read.log ∷ []

abbrev pub standing : ShelfView → List Act
standing s =
    SawLog s.files.log ∷ SawLog s.files.safe ∷ SawFence s.files.fence ∷ hand_told s.hand ∷ crash_told s.crashed ∷ read_told s.read

-- the keeper did these acts, from files that stood so
abbrev pub Tells : ShelfView → List Act → Type 0
Tells now done = (s : ShelfView) × (acts : List Act) × (done ≡ standing s ++ acts) × Passes s acts now
