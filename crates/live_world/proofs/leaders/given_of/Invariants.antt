use Rattle.std.proofs.Common.{◌+◌, ◌-◌, ◌≤◌, length, take, vec_len, vec_capacity}
use Rattle.live_world.proofs.Logs.{AreGivenAs}
use Rattle.live_world.proofs.leaders.given_of.Given as goal

abbrev pub invariant-loop-log : goal.invariant-loop-log
invariant-loop-log l = AreGivenAs (take l.log-index l.logs) l.given.items × (vec_len l.given + (length l.logs - l.log-index) ≤ vec_capacity l.given)
