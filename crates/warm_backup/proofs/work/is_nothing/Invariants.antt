use Rattle.warm_backup.specs.machinery.Growing.{AsksForNothingOf}
use Rattle.warm_backup.proofs.work.is_nothing.Given as goal

abbrev pub invariant-loop-number : goal.invariant-loop-number
invariant-loop-number l = AsksForNothingOf l.leg l.number
