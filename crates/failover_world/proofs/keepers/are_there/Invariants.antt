use Rattle.std.proofs.Common.{◌≢◌, None, take}
use Rattle.std.specs.Prelude.{All}
use Rattle.failover_world.specs.Worlds.{store_at}
use Rattle.failover_world.proofs.keepers.are_there.Given as goal

abbrev pub invariant-loop-number : goal.invariant-loop-number
invariant-loop-number l = All (λ k. store_at l.stores k ≢ None) (take l.number-index l.numbers)
