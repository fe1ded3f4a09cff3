use Rattle.std.proofs.Common.{◌≤◌, take}
use Rattle.failover_world.specs.Happenings.{stores_of}
use Rattle.failover_world.proofs.Named.{AreTold}
use Rattle.failover_world.proofs.keepers.count_named.Given as goal

abbrev pub invariant-loop-number : goal.invariant-loop-number
invariant-loop-number l = AreTold (stores_of (take l.number l.stores) l.numbers) l.many l.last × (l.many ≤ l.number)
