-- As what the faults of a keeper's files are told.
use Rattle.fragment_codec.specs.declared.fault.FrameFault.{FrameFault}
use Rattle.fragment_codec.specs.Faults.{fault_number}
use Rattle.stations.specs.declared.faults.FilesFault.{FilesFault}
use Rattle.stations.specs.declared.faults.FilesFault.TheVariants.{Log, Fences, Moved, Memory}
use Rattle.stations.specs.declared.faults.LogFault.{LogFault}
use Rattle.stations.specs.declared.faults.LogFault.TheVariants.{Files, Frame, OtherGuest, Clash}
use Rattle.stations.specs.declared.faults.FenceFault.{FenceFault}
use Rattle.stations.specs.declared.faults.FenceFault.TheVariants.{Files as FilesOfFence, Fenced, Far}
use Rattle.keeper_files.specs.declared.faults.OpenFault.{OpenFault}
use Rattle.keeper_files.specs.declared.faults.OpenFault.TheVariants.{Files as FilesOfOpen, Locked, Link, Failed, NoLine, OtherKeeper, OtherLog, OtherFences}
use Rattle.keeper_files.specs.declared.faults.MakeFault.{MakeFault}
use Rattle.keeper_files.specs.declared.faults.MakeFault.TheVariants.{Files as FilesOfMake, There}
use Rattle.ends.specs.declared.faults.Fault.{Fault}
use Rattle.ends.specs.declared.faults.Fault.TheVariants.{File, Frames as WithFrames, Fenced as WasFenced, Far as IsFar, Locked as IsLocked, Link as IsLink, Failed as HasFailed, Moved as HasMoved, There as IsThere, NoLine as HasNoLine, OtherKeeper as OfOtherKeeper, OtherLog as IsOtherLog, OtherFences as HasOtherFences, Memory as NoMemory}
use Rattle.ends.specs.declared.faults.Why.TheVariants.{Unknown}
use Rattle.ends.specs.declared.faults.Frames.TheVariants.{Log as InLog}
use Rattle.ends.specs.declared.faults.FramesFault.TheVariants.{Frame as OfFrame, Guest as OfGuest, Clash as OfClash}
use Rattle.ends.specs.declared.faults.NamedFile.TheVariants.{Log as TheLog, Fences as TheFences}

abbrev pub told_of_files : FilesFault → Fault
told_of_files Log = File TheLog Unknown
told_of_files Fences = File TheFences Unknown
told_of_files Moved = HasMoved
told_of_files Memory = NoMemory

abbrev pub told_of_log : LogFault → Fault
told_of_log (Files fault) = told_of_files fault
told_of_log (Frame fault) = WithFrames InLog (OfFrame (fault_number fault))
told_of_log OtherGuest = WithFrames InLog OfGuest
told_of_log Clash = WithFrames InLog OfClash

abbrev pub told_of_fence : FenceFault → Fault
told_of_fence (FilesOfFence fault) = told_of_files fault
told_of_fence (Fenced term) = WasFenced term
told_of_fence (Far term) = IsFar term

abbrev pub told_of_opening : OpenFault → Fault
told_of_opening (FilesOfOpen fault) = told_of_files fault
told_of_opening Locked = IsLocked
told_of_opening Link = IsLink
told_of_opening Failed = HasFailed
told_of_opening NoLine = HasNoLine
told_of_opening OtherKeeper = OfOtherKeeper
told_of_opening OtherLog = IsOtherLog
told_of_opening OtherFences = HasOtherFences

abbrev pub told_of_making : MakeFault → Fault
told_of_making (FilesOfMake fault) = told_of_files fault
told_of_making There = IsThere
