use Rattle.lease_rounds.specs.machinery.StepsLeft.{steps_left}
use Rattle.warm_backup.specs.machinery.Leading.{IsLater}
use Rattle.warm_backup.proofs.leading.lead_all.Given as goal

abbrev pub invariant-loop : goal.invariant-loop
invariant-loop l = IsLater l.initial.book l.book

abbrev pub decreases-loop : goal.decreases-loop
decreases-loop l = steps_left l.ends l.book.machine.harts
