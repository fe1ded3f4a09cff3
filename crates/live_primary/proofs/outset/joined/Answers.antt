use Rattle.std.proofs.Common.{◌<◌, map, length, take, arith}
use Rattle.log_join.specs.Stores.{nothing}
use Rattle.go_live.proofs.Joins.{joined_more}
use Rattle.primary_turns.proofs.Taken.{taken_more}
use Rattle.live_primary.proofs.outset.joined.Goals as goal

pub loop-log-preserved : goal.loop-log-preserved
loop-log-preserved c =
    let logs = c.args.logs.now in
    let i = c.loop-log.log-index in
    let log = c.log-item.result in
    let within : i < length logs = omega arith in
    rw (taken_more (λ l. l.store) logs i log within c.log-item.is)
    (joined_more (nothing c.args.guest) (take i (map (λ l. l.store) logs)) log.store c.loop-log.store c.join.new.self c.loop-log.invariant
    c.in-Ok.ensures.joined)
