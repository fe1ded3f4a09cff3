use Rattle.std.proofs.Common.{◌<◌, length, arith}
use Rattle.live_primary.proofs.Taken.{both_more}
use Rattle.live_primary.proofs.outset.given_of.Goals as goal

pub loop-log-preserved : goal.loop-log-preserved
loop-log-preserved c =
    let logs = c.args.logs.now in
    let i = c.loop-log.log-index in
    let log = c.log-item.result in
    let old = c.loop-log.given.items in
    let new = c.push_reserved.new.self.items in
    let given = c.given.result in
    let pushed = c.push_reserved.ensures.items in
    let so_far = c.loop-log.invariant in
    let within : i < length logs = omega arith in (
      both_more (λ g. g.keeper) (λ l. l.keeper) old new given logs i log pushed so_far.0 c.given.ensures.keeper within c.log-item.is,
      both_more (λ g. g.term) (λ l. l.term) old new given logs i log pushed so_far.1 c.given.ensures.term within c.log-item.is,
      both_more (λ g. g.store.now) (λ l. l.store) old new given logs i log pushed so_far.2 c.given.ensures.store within c.log-item.is,
      omega arith,
    )
