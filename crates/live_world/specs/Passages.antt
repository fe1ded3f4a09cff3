-- What goes on at a keeper's files while its call lasts.
use Rattle.std.specs.Prelude.{◌≡◌, ◌++◌, ℕ, true, List, [], ◌∷◌}
use Rattle.stations.specs.Acts.{Act, SawLog, Added, SawFence, Failed}
use Rattle.stations.specs.Handshake.{Files, Did, after}
use Rattle.live_world.specs.Shelves.{ShelfView, Beside}

-- whoever reads sees what is there
abbrev pub IsSeen : Files → Act → Type 0
IsSeen files (SawLog bytes) = bytes ≡ files.log
IsSeen files (SawFence fence) = fence ≡ files.fence
IsSeen files other = Unit {0}

-- an act that leaves all as it is
abbrev pub IsNothing : Act → Type 0
IsNothing (Added bytes) = bytes ≡ []
IsNothing (Failed fault) = Unit {0}
IsNothing other = ⊥

-- the keeper did this with its files; behind a crash of its machine it does nothing any more
pub record IsDone (s : ShelfView) (act : Act) (t : ShelfView) : Type 0 where
  pub seen : IsSeen s.files act
  pub lives : s.crashed ≡ true → IsNothing act
  pub rest : t ≡ record s { files = after s.files (Did act) }

-- The keeper did these acts, in this order, and beside them whoever hands its log over did what it did, and its machine crashed.
pub data Passes (s : ShelfView) : List Act → ShelfView → Type 0 where
  Begins : Passes s [] s
  ThenDid : {acts : List Act} {t u : ShelfView} → Passes s acts t → (act : Act) → IsDone t act u → Passes s (acts ++ act ∷ []) u
  ThenBeside : {acts : List Act} {t u : ShelfView} → Passes s acts t → Beside t u → Passes s acts u
