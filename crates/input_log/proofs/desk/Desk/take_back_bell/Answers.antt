use Rattle.std.proofs.Common.{List, sym, subst}
use Rattle.input_log.specs.Waiting.{Queues, IsBellAddedTo}
use Rattle.input_log.proofs.Backs.{desk_back}
use Rattle.input_log.proofs.desk.Desk.take_back_bell.Goals as goal

pub returns-clause-back : goal.returns-clause-back
returns-clause-back c before bell was =
    desk_back c.self.inside.queues before c.args.hart c.index.result bell c.take_back_bell.new.self c.index-self-index.result c.index.ensures.value
    c.self.invariant c.index.ensures.below
    (subst (λ (v : List Queues). IsBellAddedTo before c.args.hart bell v) (sym c.self.view_is) was) c.take_back_bell.ensures
