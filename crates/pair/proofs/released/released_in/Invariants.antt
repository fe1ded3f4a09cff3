use Rattle.std.proofs.Common.{◌≡◌, take, filter}
use Rattle.pair.specs.Released.{is_among}
use Rattle.pair.proofs.Among.{outputs_of}
use Rattle.pair.proofs.released.released_in.Given as goal

abbrev pub invariant-loop-number : goal.invariant-loop-number
invariant-loop-number l = l.released.items ≡ filter (is_among l.given) (outputs_of (take l.number l.machine.harts))
