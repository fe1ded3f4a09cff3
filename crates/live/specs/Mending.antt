-- As what it is told why a log is not mended.
use Rattle.log_mending.specs.declared.faults.Misfit.{Misfit}
use Rattle.log_mending.specs.declared.faults.Misfit.TheVariants.{OtherGuest, Clash}
use Rattle.log_mending.specs.declared.faults.MendFault.{MendFault}
use Rattle.log_mending.specs.declared.faults.MendFault.TheVariants.{Files, Behind, Own, Other}
use Rattle.ends.specs.declared.faults.Fault.{Fault}
use Rattle.ends.specs.declared.faults.Fault.TheVariants.{Frames as WithFrames, Behind as HasFramesBehind}
use Rattle.ends.specs.declared.faults.Frames.TheVariants.{Log as InLog, From as InOther, AllHanded}
use Rattle.ends.specs.declared.faults.FramesFault.{FramesFault}
use Rattle.ends.specs.declared.faults.FramesFault.TheVariants.{Guest as OfGuest, Clash as OfClash}
use Rattle.live_keeper.specs.Faults.{told_of_files}

abbrev pub told_of_misfit : Misfit → FramesFault
told_of_misfit OtherGuest = OfGuest
told_of_misfit Clash = OfClash

abbrev pub told_of_mending : MendFault → Fault
told_of_mending (Files fault) = told_of_files fault
told_of_mending Behind = HasFramesBehind
told_of_mending (Own misfit) = WithFrames InLog (told_of_misfit misfit)
told_of_mending (Other number misfit) = WithFrames (InOther number) (told_of_misfit misfit)

-- as what it is told why a new log is not filled from what was handed over
abbrev pub told_of_renewing : MendFault → Fault
told_of_renewing (Files fault) = told_of_files fault
told_of_renewing Behind = HasFramesBehind
told_of_renewing (Own misfit) = WithFrames AllHanded (told_of_misfit misfit)
told_of_renewing (Other number misfit) = WithFrames AllHanded (told_of_misfit misfit)
