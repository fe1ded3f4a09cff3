use Rattle.std.proofs.Common.{◌≡◌, ◌++◌, take}
use Rattle.primary.specs.Outputs.{numbered_from}
use Rattle.leading.specs.Telling.{told_in}
use Rattle.leading.proofs.telling.add_known.Given as goal

abbrev pub invariant-loop-index : goal.invariant-loop-index
invariant-loop-index l = l.answers.items ≡ l.fn.answers.items ++ told_in l.term (numbered_from l.hart l.first (take l.index l.said))
