use Rattle.std.proofs.Common.{◌≡◌}
use Rattle.moments.specs.machinery.Parts.{contents_of}
use Rattle.moments.proofs.ram.SharedRam.share.Given as goal

abbrev pub invariant-loop-place : goal.invariant-loop-place
invariant-loop-place l = contents_of l.self.parts.items ≡ contents_of l.initial.self.parts.items
