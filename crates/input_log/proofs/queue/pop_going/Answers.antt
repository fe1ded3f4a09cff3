use Rattle.input_log.proofs.Taking.{stays_behind}
use Rattle.input_log.proofs.queue.pop_going.Goals as goal

pub returns-then-goes-clause-stay : goal.returns-then-goes-clause-stay
returns-then-goes-clause-stay c =
    stays_behind c.args.count c.args.others.now.items c.pop_front.new.self.items c.goes.result c.if-goes.true c.goes.ensures.none c.goes.ensures.first
    c.pop_front.ensures.rest
