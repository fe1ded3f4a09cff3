use Rattle.std.proofs.Common.{take}
use Rattle.live_world.specs.Grants.{HasLogs}
use Rattle.live_world.proofs.leaders.logs_of.Given as goal

abbrev pub invariant-loop-number : goal.invariant-loop-number
invariant-loop-number l = HasLogs l.guest l.handed (take l.number-index l.numbers) l.logs.items
