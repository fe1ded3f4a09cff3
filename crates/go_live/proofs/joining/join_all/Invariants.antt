use Rattle.std.proofs.Common.{map, take}
use Rattle.go_live.specs.Joined.{AreJoined}
use Rattle.go_live.proofs.joining.join_all.Given as goal

abbrev pub invariant-loop-store : goal.invariant-loop-store
invariant-loop-store l = AreJoined l.fn.guest (take l.store-index (map (λ s. s.1.now) l.stores)) l.joined
