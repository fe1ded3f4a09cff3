use Rattle.std.proofs.Common.{ap}
use Rattle.book_modes.specs.declared.mode.Leg.{Leg}
use Rattle.hart_lease.specs.Runs.{heard_in}
use Rattle.hart_replay.proofs.rounds.Ends.{outcome_of, fault_of}
use Rattle.hart_replay.proofs.leading.replay_leg.Goals as goal

pub returns-clause-ok : goal.returns-clause-ok
returns-clause-ok c =
    outcome_of c.args.start c.args.leg.now c.requires.leg c.requires.base c.in_ok-book.book c.in_ok-book.ensures (heard_in c.in_ok-book.book.mode.inputs)
    (ap (λ (leg : Leg). heard_in leg.inputs) c.in_ok-book.ensures.leading.mode)
    c.into_machine.ensures.run c.into_machine.ensures.begins c.into_machine.result c.come_to.result c.into_machine.ensures.value c.come_to.ensures.ok

pub returns-clause-fault : goal.returns-clause-fault
returns-clause-fault c =
    fault_of c.args.start c.args.leg.now c.requires.leg c.requires.base c.in_ok-book.book c.in_ok-book.ensures (heard_in c.in_ok-book.book.mode.inputs)
    (ap (λ (leg : Leg). heard_in leg.inputs) c.in_ok-book.ensures.leading.mode)
    c.into_machine.ensures.run c.into_machine.ensures.begins c.into_machine.result c.come_to.result c.into_machine.ensures.value c.come_to.ensures.fault
