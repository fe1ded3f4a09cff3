use Rattle.std.proofs.Common.{◌≡◌, false, sym}
use Rattle.input_log.specs.Inputs.{is_bell}
use Rattle.leading.specs.Rounds.{next_of}
use Rattle.leading.proofs.Handing.{next_is, none_next, some_is, none_is}
use Rattle.leading.proofs.inputs.next_input.Goals as goal
use Rattle.leading.proofs.inputs.next_input.Goals.{After-next}

module _ (c : After-next) where
  is : c.next.result ≡ next_of c.args.state.now c.args.queue.now
  is =
      next_is c.args.state.now c.args.queue.now c.next.result c.is_ready.result c.given.result c.is_ready.ensures c.if-is_ready.true c.given.ensures.value
      c.next.ensures.ready c.next.ensures.waits

pub returns-then-is_ready-clause-next : goal.returns-then-is_ready-clause-next
returns-then-is_ready-clause-next c = is c

pub returns-then-is_ready-clause-some : goal.returns-then-is_ready-clause-some
returns-then-is_ready-clause-some c =
    some_is (λ input. is_bell input ≡ false) c.next.result (next_of c.args.state.now c.args.queue.now) (is c) c.next.ensures.no_bell

pub returns-then-is_ready-clause-none : goal.returns-then-is_ready-clause-none
returns-then-is_ready-clause-none c = none_is c.next.result (next_of c.args.state.now c.args.queue.now) (is c)

pub returns-else-is_ready-clause-next : goal.returns-else-is_ready-clause-next
returns-else-is_ready-clause-next c = none_next c.args.state.now c.args.queue.now c.is_ready.result c.is_ready.ensures c.if-is_ready.false

pub returns-else-is_ready-clause-none : goal.returns-else-is_ready-clause-none
returns-else-is_ready-clause-none c = sym (none_next c.args.state.now c.args.queue.now c.is_ready.result c.is_ready.ensures c.if-is_ready.false)
