use Rattle.std.proofs.Common.{◌≡◌, replicate, Some}
use Rattle.log_join.specs.Stores.{nothing}
use Rattle.failover_world.proofs.keepers.empty_stores.Given as goal

abbrev pub invariant-loop-keeper : goal.invariant-loop-keeper
invariant-loop-keeper l = l.stores.items ≡ replicate l._keeper (Some (nothing l.guest))
