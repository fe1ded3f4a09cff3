use Rattle.std.proofs.Common.{◌≤◌}
use Rattle.hart_replay.specs.machinery.Going.{IsAt}
use Rattle.hart_replay.proofs.going.lead_through.Given as goal

abbrev pub invariant-loop-number : goal.invariant-loop-number
invariant-loop-number l = record { at : IsAt l._image l.legs l.number l.machine; within : l.number ≤ l.last }
