use Rattle.std.proofs.Common.{◌≡◌, ◌++◌, take, filter}
use Rattle.primary.specs.Outputs.{numbered}
use Rattle.pair.specs.Released.{is_among}
use Rattle.pair.proofs.released.add_given.Given as goal

abbrev pub invariant-loop-number : goal.invariant-loop-number
invariant-loop-number l = l.released.items ≡ l.initial.released.items ++ filter (is_among l.given) (numbered l.hart (take l.number l.said))
