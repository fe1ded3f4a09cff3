use Rattle.std.proofs.Common.{List, take, arith, subst}
use Rattle.std.proofs.lemmas.List.{take_all}
use Rattle.leading.specs.declared.handed.HandedLog.{HandedLog}
use Rattle.live_world.proofs.Logs.{AreGivenAs, given_all, given_more}
use Rattle.live_world.proofs.leaders.given_of.Goals as goal

pub loop-log-preserved : goal.loop-log-preserved
loop-log-preserved c = (
  given_more c.args.logs.now c.loop-log.log-index c.log-item.result c.loop-log.given.items c.push_reserved.new.self.items c.given.result (omega arith)
      c.log-item.is c.loop-log.invariant.0 (c.given.ensures.keeper, c.given.ensures.term, c.given.ensures.store) c.push_reserved.ensures.items,
  omega arith,
)

pub returns : goal.returns
returns c = λ guest handed numbers has.
    given_all guest handed numbers c.args.logs.now c.loop-log.given.items has
    (subst (λ (logs : List HandedLog). AreGivenAs logs c.loop-log.given.items) (take_all c.loop-log.log-index c.args.logs.now (omega arith))
    c.loop-log.invariant.0)
