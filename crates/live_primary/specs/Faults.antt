-- As what it is told why no primary leads from what was handed over.
use Rattle.std.specs.Prelude.{ℕ}
use Rattle.fragment_codec.specs.Faults.{fault_number}
use Rattle.guest_image.specs.declared.fault.ImageFault.{ImageFault}
use Rattle.guest_image.specs.declared.fault.ImageFault.TheVariants.{BadLine, TooLarge, NoHarts, Memory as NoMemoryForImage}
use Rattle.log_join.specs.declared.answers.StoreFault.{StoreFault}
use Rattle.log_join.specs.declared.answers.StoreFault.TheVariants.{OtherGuest as OfOtherGuest, Memory as NoMemoryForStore}
use Rattle.go_live.specs.declared.fault.LiveFault.TheVariants.{Memory as NoMemoryToLive}
use Rattle.go_live.specs.Faults.{fault_number as number_of_live}
use Rattle.fenced_live.specs.declared.fault.GivenFault.TheVariants.{OtherTerm, Live as NotLiveFrom}
use Rattle.leading.specs.declared.fault.LeadFault.{LeadFault}
use Rattle.leading.specs.declared.fault.LeadFault.TheVariants.{NoKeeper, NotLive}
use Rattle.leading.specs.declared.handed.HandedFault.{HandedFault}
use Rattle.leading.specs.declared.handed.HandedFault.TheVariants.{Line, Length, Torn, Frame, OtherGuest, Clash, Memory}
use Rattle.ends.specs.declared.faults.Fault.{Fault}
use Rattle.ends.specs.declared.faults.Fault.TheVariants.{ImageLine, Image, Frames as WithFrames, Live, Memory as NoMemory}
use Rattle.ends.specs.declared.faults.Frames.TheVariants.{Handed, AllHanded}
use Rattle.ends.specs.declared.faults.FramesFault.TheVariants.{Line as OfLine, Length as OfLength, Torn as IsTorn, Frame as OfFrame, Guest as OfGuest, Clash as OfClash, Term as OfTerm, Keeper as OfKeeper}

abbrev pub told_of_image : ImageFault → Fault
told_of_image (BadLine line) = ImageLine line
told_of_image TooLarge = Image 2
told_of_image NoHarts = Image 3
told_of_image NoMemoryForImage = NoMemory

-- of what was handed over with a number
abbrev pub told_of_handed : ℕ → HandedFault → Fault
told_of_handed number Line = WithFrames (Handed number) OfLine
told_of_handed number Length = WithFrames (Handed number) OfLength
told_of_handed number Torn = WithFrames (Handed number) IsTorn
told_of_handed number (Frame fault) = WithFrames (Handed number) (OfFrame (fault_number fault))
told_of_handed number OtherGuest = WithFrames (Handed number) OfGuest
told_of_handed number Clash = WithFrames (Handed number) OfClash
told_of_handed number Memory = NoMemory

-- of all that was handed over
abbrev pub told_of_store : StoreFault → Fault
told_of_store OfOtherGuest = WithFrames AllHanded OfClash
told_of_store NoMemoryForStore = NoMemory

abbrev pub told_of_lead : LeadFault → Fault
told_of_lead NoKeeper = WithFrames AllHanded OfKeeper
told_of_lead (NotLive OtherTerm) = WithFrames AllHanded OfTerm
told_of_lead (NotLive (NotLiveFrom NoMemoryToLive)) = NoMemory
told_of_lead (NotLive (NotLiveFrom fault)) = Live (number_of_live fault)
