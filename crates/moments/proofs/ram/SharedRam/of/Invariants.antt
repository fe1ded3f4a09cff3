use Rattle.std.proofs.Common.{◌≡◌, take}
use Rattle.moments.specs.machinery.Parts.{contents_of}
use Rattle.moments.proofs.ram.SharedRam.of.Given as goal

abbrev pub invariant-loop-number : goal.invariant-loop-number
invariant-loop-number l = contents_of l.parts.items ≡ take l.number l.machine.pages
