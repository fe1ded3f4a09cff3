use Rattle.lease_rounds.specs.Leading.{IsAlone}
use Rattle.hart_threads.proofs.together.fill_watched.Given as goal

abbrev pub invariant-loop-look : goal.invariant-loop-look
invariant-loop-look g l = IsAlone l.book l.lease
