use Rattle.std.proofs.Common.{◌≡◌, take}
use Rattle.primary.specs.Noting.{last_of}
use Rattle.primary.proofs.noting.last_of.Given as goal

abbrev pub invariant-loop-output : goal.invariant-loop-output
invariant-loop-output l = l.last ≡ last_of l.hart (take l.output-index l.given)
