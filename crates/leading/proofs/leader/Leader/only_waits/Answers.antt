use Rattle.leading.specs.Rounds.{NoneIsHanded}
use Rattle.leading.proofs.GoingRound.{only_waits}
use Rattle.leading.proofs.leader.Leader.only_waits.Goals as goal

pub returns : goal.returns
returns c =
    only_waits c.only_waits.result (NoneIsHanded c.args.self.now.primary.book.machine c.args.self.now.queues) c.machine.result.now
    c.args.self.now.primary.book.machine c.machine.ensures (c.may_hand.ensures.handed.0 c.if-may_hand.false) c.only_waits.ensures
