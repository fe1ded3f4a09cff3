-- Calls of a disk, one behind the other, and the acts that they are.
use Rattle.std.proofs.Common.{◌++◌, List}
use Rattle.ft_types.specs.Guests.{GuestParts}
use Rattle.stations.specs.Acts.{Act, Does}
use Rattle.keeper_files.specs.Deeds.{Deed}
use Rattle.keeper_files.specs.Telling.{IsTold, Then, acts_of}
use Rattle.keeper_files.specs.declared.disk.Identity.{Identity}

-- more deeds of the disk are the acts that they tell
pub does_acts : (guest : GuestParts) (own : Identity) (old new : List Deed → Type 0) (more : List Deed) (next : List Act) → Does old new more →
    IsTold guest own more next → Does (acts_of guest own old) (acts_of guest own new) next
does_acts guest own old new more next done told = λ acts w. (w.0 ++ more, done w.0 w.1, Then w.0 more acts next w.2 told)
