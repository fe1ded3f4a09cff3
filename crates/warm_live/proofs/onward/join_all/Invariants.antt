use Rattle.std.proofs.Common.{◌≡◌, map, take}
use Rattle.go_live.specs.Joined.{AreJoinedTo}
use Rattle.warm_live.proofs.onward.join_all.Given as goal

abbrev pub invariant-loop-store : goal.invariant-loop-store
invariant-loop-store l = record {
  joined : AreJoinedTo l.fn.backup.store (take l.store-index (map (λ s. s.1.now) l.stores)) l.backup.store;
  rest : l.backup ≡ record l.fn.backup { store = l.backup.store };
}
