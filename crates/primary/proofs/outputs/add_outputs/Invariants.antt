use Rattle.std.proofs.Common.{◌≡◌, ◌++◌, take}
use Rattle.primary.specs.Outputs.{numbered_from}
use Rattle.primary.proofs.outputs.add_outputs.Given as goal

abbrev pub invariant-loop-index : goal.invariant-loop-index
invariant-loop-index l = l.outputs.items ≡ l.initial.outputs.items ++ numbered_from l.hart l.first (take l.index l.said)
