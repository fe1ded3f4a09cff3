-- What the files tell that whoever hands a log over saw. Machinery: nothing here needs to be believed.
use Rattle.std.specs.Prelude.{◌≡◌, ℕ, List, [], ◌∷◌}
use Rattle.stations.specs.Acts.{Act, SawLog, SawFence, Failed}

-- behind these acts this is left of a log that is read once; each sees what is there, and none fails
abbrev pub LeavesSeen : ℕ → List ℕ → List Act → List ℕ → Type 0
LeavesSeen last log [] left = left ≡ log
LeavesSeen last log (SawLog bytes ∷ acts) left = (bytes ≡ log) × LeavesSeen last [] acts left
LeavesSeen last log (SawFence fence ∷ acts) left = (fence ≡ last) × LeavesSeen last log acts left
LeavesSeen last log (Failed fault ∷ acts) left = ⊥
LeavesSeen last log (other ∷ acts) left = LeavesSeen last log acts left

-- the log and the fence are told first
abbrev pub TellsSeen : ℕ → List ℕ → List Act → Type 0
TellsSeen last left done = (log : List ℕ) × (acts : List Act) × (done ≡ SawLog log ∷ SawFence last ∷ acts) × LeavesSeen last log acts left
