use Rattle.lease_rounds.specs.machinery.StepsLeft.{steps_left}
use Rattle.hart_replay.specs.Leading.{IsLeading, leg_of}
use Rattle.hart_replay.proofs.leading.lead.Given as goal

abbrev pub invariant-loop-book : goal.invariant-loop-book
invariant-loop-book l = IsLeading l.fn.start (leg_of l.leg) l.book

abbrev pub decreases-loop-book : goal.decreases-loop-book
decreases-loop-book l = steps_left l.leg.ends l.book.machine.harts
