-- What was done with the files of a log that is not mended.
use Rattle.std.specs.Prelude.{◌≡◌, List, [], ◌∷◌, ℕ}
use Rattle.ft_types.specs.Guests.{GuestParts}
use Rattle.stations.specs.Acts.{Act, SawLog, Does}
use Rattle.log_mending.specs.Mending.{IsNotMended}
use Rattle.log_mending.specs.declared.faults.MendFault.{MendFault}
use Rattle.log_mending.specs.declared.faults.MendFault.TheVariants.{Files, Behind, Own, Other}

-- the log was read, and nothing else was done
abbrev pub IsLeft : GuestParts → List (List ℕ) → (List Act → Type 0) → (List Act → Type 0) → MendFault → Type 0
IsLeft guest others old new fault = (log : List ℕ) × Does old new (SawLog log ∷ []) × IsNotMended guest log others fault

-- where no file failed and memory was there, the log stays as it is
abbrev pub IsRefused : GuestParts → List (List ℕ) → (List Act → Type 0) → (List Act → Type 0) → MendFault → Type 0
IsRefused guest others old new (Files fault) = Unit {0}
IsRefused guest others old new Behind = IsLeft guest others old new Behind
IsRefused guest others old new (Own misfit) = IsLeft guest others old new (Own misfit)
IsRefused guest others old new (Other number misfit) = IsLeft guest others old new (Other number misfit)
