-- Why frames are not added to what a log is filled with.
use Rattle.std.specs.Prelude.{◌≡◌, ℕ, List}
use Rattle.ft_types.specs.Guests.{GuestParts}
use Rattle.fragment_codec.specs.declared.frame.Frame.{Frame}
use Rattle.log_join.specs.Answers.{answer_to}
use Rattle.log_join.specs.Stores.{StoreView}
use Rattle.stations.specs.declared.faults.FilesFault.TheVariants.{Memory as NoMemory}
use Rattle.log_mending.specs.Gathering.{put_of}
use Rattle.log_mending.specs.Mending.{IsUnfit, IsUnfitIn}
use Rattle.log_mending.specs.declared.faults.MendFault.{MendFault}
use Rattle.log_mending.specs.declared.faults.MendFault.TheVariants.{Files, Behind, Own, Other}

-- memory was refused, or the store does not take the frame of the other log of this number
abbrev pub IsFaultOfFrame : StoreView → Frame → ℕ → MendFault → Type 0
IsFaultOfFrame store frame number (Files fault) = fault ≡ NoMemory
IsFaultOfFrame store frame number Behind = ⊥
IsFaultOfFrame store frame number (Own misfit) = ⊥
IsFaultOfFrame store frame number (Other n misfit) = (n ≡ number) × (answer_to store frame ≡ put_of misfit)

-- or one of the frames, of which the last are of that log
abbrev pub IsFaultOfFrames : GuestParts → List Frame → ℕ → MendFault → Type 0
IsFaultOfFrames guest frames number (Files fault) = fault ≡ NoMemory
IsFaultOfFrames guest frames number Behind = ⊥
IsFaultOfFrames guest frames number (Own misfit) = ⊥
IsFaultOfFrames guest frames number (Other n misfit) = (n ≡ number) × IsUnfit guest frames misfit

-- or one of the frames of these logs
abbrev pub IsFaultOfLogs : GuestParts → List Frame → List (List ℕ) → MendFault → Type 0
IsFaultOfLogs guest own others (Files fault) = fault ≡ NoMemory
IsFaultOfLogs guest own others Behind = ⊥
IsFaultOfLogs guest own others (Own misfit) = ⊥
IsFaultOfLogs guest own others (Other number misfit) = IsUnfitIn guest own others number misfit
