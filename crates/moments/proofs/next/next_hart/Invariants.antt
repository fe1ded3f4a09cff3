use Rattle.moments.specs.machinery.Machines.{machine_of}
use Rattle.moments.specs.machinery.Choices.{Chosen}
use Rattle.moments.proofs.next.next_hart.Given as goal

abbrev pub invariant-loop-number : goal.invariant-loop-number
invariant-loop-number l = Chosen l.leg (machine_of l.machine) l.number l.next
