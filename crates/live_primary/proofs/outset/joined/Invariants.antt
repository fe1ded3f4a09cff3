use Rattle.std.proofs.Common.{map, take}
use Rattle.go_live.specs.Joined.{AreJoined}
use Rattle.live_primary.proofs.outset.joined.Given as goal

abbrev pub invariant-loop-log : goal.invariant-loop-log
invariant-loop-log l = AreJoined l.fn.guest (take l.log-index (map (λ l. l.store) l.logs)) l.store
