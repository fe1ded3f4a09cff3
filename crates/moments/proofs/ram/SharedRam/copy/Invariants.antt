use Rattle.std.proofs.Common.{◌≡◌, take}
use Rattle.moments.specs.machinery.Parts.{contents_of}
use Rattle.moments.proofs.ram.SharedRam.copy.Given as goal

abbrev pub invariant-loop-part : goal.invariant-loop-part
invariant-loop-part l = contents_of l.parts.items ≡ take l.part-index (contents_of l.self.parts.items)
