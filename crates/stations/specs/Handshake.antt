-- What several processes do with one log and its fences, which all of them see in one order, and what a crash of their machine leaves.
use Rattle.std.specs.Prelude.{◌≡◌, ◌≤◌, ◌<◌, max, ℕ, List, [], ◌∷◌, ◌++◌, take, None}
use Rattle.fragment_codec.specs.declared.frame.Frame.{Frame}
use Rattle.fragment_codec.specs.Streams.{Splits}
use Rattle.stations.specs.Acts.{Act, SawLog, CutTo, Added, Synced, SawFence, Fenced, Failed}
use Rattle.stations.specs.Logs.{IsFrontOf}

-- what happens next: an act of one of the processes, or a crash, behind which the log has these bytes
pub data Happening : Type 0 where
  Did : Act → Happening
  Crash : (left : List ℕ) → Happening

-- the files as they are seen, and how the log is on disk for sure
pub record Files : Type 0 where
  pub log : List ℕ
  pub safe : List ℕ
  pub fence : ℕ  -- the last one, 0 where there is none

abbrev pub after : Files → Happening → Files
after files (Did (Added bytes)) = record files { log = files.log ++ bytes }
after files (Did (CutTo size)) = record files { log = take size files.log; safe = take size files.safe }
after files (Did Synced) = record files { safe = files.log }
after files (Did (Fenced term)) = record files { fence = max files.fence term }
after files (Did (SawLog bytes)) = files
after files (Did (SawFence fence)) = files
after files (Did (Failed fault)) = files
after files (Crash left) = record files { log = left }

abbrev pub all_after : Files → List Happening → Files
all_after files [] = files
all_after files (next ∷ happenings) = all_after (after files next) happenings

-- the second begins with the first
abbrev pub IsBeginning : List ℕ → List ℕ → Type 0
IsBeginning xs ys = (rest : List ℕ) × (ys ≡ xs ++ rest)

-- who reads sees what is there, and may see a fence that is not on disk yet; who cuts leaves all frames at the log's front; and a crash leaves what was
-- on disk
abbrev pub IsTrue : Files → Happening → Type 0
IsTrue files (Did (SawLog bytes)) = bytes ≡ files.log
IsTrue files (Did (SawFence fence)) = files.fence ≤ fence
IsTrue files (Did (CutTo size)) = (frames : List Frame) × IsFrontOf files.log frames size None
IsTrue files (Did (Added bytes)) = Unit {0}
IsTrue files (Did Synced) = Unit {0}
IsTrue files (Did (Fenced term)) = Unit {0}
IsTrue files (Did (Failed fault)) = Unit {0}
IsTrue files (Crash left) = IsBeginning files.safe left

abbrev pub AllTrue : Files → List Happening → Type 0
AllTrue files [] = Unit {0}
AllTrue files (next ∷ happenings) = IsTrue files next × AllTrue (after files next) happenings

-- a keeper brought its log to disk, and behind that saw this fence
pub record Acknowledged (files : Files) (all : List Happening) (log : List ℕ) (fence : ℕ) : Type 0 where
  pub earlier : List Happening
  pub between : List Happening
  pub later : List Happening
  pub parts : all ≡ earlier ++ Did Synced ∷ (between ++ Did (SawFence fence) ∷ later)
  pub was : log ≡ (all_after files earlier).log

-- a fence was put, and behind that the log was read
pub record HandedOver (all : List Happening) (term : ℕ) (log : List ℕ) : Type 0 where
  pub earlier : List Happening
  pub between : List Happening
  pub later : List Happening
  pub parts : all ≡ earlier ++ Did (Fenced term) ∷ (between ++ Did (SawLog log) ∷ later)

-- Whatever happens, in whatever order and however often: the log of whole frames that a keeper acknowledged behind a fence below a term is the
-- beginning of what is handed over to that term, whether the acknowledgement came before or after.
abbrev pub Handshake : Type 0
Handshake =
    (files : Files) (all : List Happening) → AllTrue files all → (log : List ℕ) (fence : ℕ) → Acknowledged files all log fence →
    (frames : List Frame) → Splits log frames [] → (term : ℕ) (seen : List ℕ) → HandedOver all term seen → fence < term → IsBeginning log seen
