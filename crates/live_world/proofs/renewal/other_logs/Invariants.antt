use Rattle.std.proofs.Common.{map, take}
use Rattle.live_world.proofs.Gifts.{SoFar}
use Rattle.live_world.proofs.renewal.other_logs.Given as goal

abbrev pub invariant-loop-number : goal.invariant-loop-number
invariant-loop-number l = SoFar l.guest l.keeper l.term l.handed (take l.number-index l.numbers) l.givers (map (λ log. log.items) l.logs.items)
