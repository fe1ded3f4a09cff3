use Rattle.lease_rounds.specs.machinery.StepsLeft.{steps_left}
use Rattle.hart_replay.specs.Leading.{IsLeading}
use Rattle.hart_threads.proofs.legs.finish.Given as goal

abbrev pub invariant-loop-book : goal.invariant-loop-book
invariant-loop-book l = IsLeading l.fn.book.start l.fn.book.mode l.book

abbrev pub decreases-loop-book : goal.decreases-loop-book
decreases-loop-book l = steps_left l.fn.book.mode.ends l.book.machine.harts
