-- What is done with a keeper's files: its log, and the fences beside it.
use Rattle.std.specs.Prelude.{ℕ, List, ◌++◌}
use Rattle.stations.specs.declared.faults.FilesFault.{FilesFault}

pub data Act : Type 0 where
  SawLog : (bytes : List ℕ) → Act  -- the log was read, and had these bytes
  CutTo : (size : ℕ) → Act  -- the log was cut to so many bytes
  Added : (bytes : List ℕ) → Act  -- the bytes were added to the log
  Synced : Act  -- what the log had was brought to disk
  SawFence : (fence : ℕ) → Act  -- the fences were read, and this was the last one, 0 where there was none
  Fenced : (term : ℕ) → Act  -- the fence was added, and was on disk
  Failed : (fault : FilesFault) → Act  -- what was asked of the files failed with this fault

-- Whatever was done before, these were done next. `old` and `new` say which lists may be all that was done; files that tell nothing say so of each.
abbrev pub Does : {A : Type 0} → (List A → Type 0) → (List A → Type 0) → List A → Type 0
Does {A} old new next = (done : List A) → old done → new (done ++ next)
