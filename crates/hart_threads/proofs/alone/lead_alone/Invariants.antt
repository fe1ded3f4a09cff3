use Rattle.std.proofs.Common.{◌<◌, ◌-◌, length}
use Rattle.lease_rounds.specs.Leading.{IsIdle}
use Rattle.hart_threads.proofs.alone.lead_alone.Given as goal

abbrev pub invariant-loop-count : goal.invariant-loop-count
invariant-loop-count g l = record { idle : IsIdle l.book; hart : l.hart < length l.book.machine.harts }

abbrev pub decreases-loop-count : goal.decreases-loop-count
decreases-loop-count g l = l.end - l.count
