use Rattle.std.proofs.Common.{◌≤◌, ◌-◌, length, take}
use Rattle.debugging.specs.Asked.{HasNone}
use Rattle.debugging.proofs.numbers.end_before.Given as goal

abbrev pub invariant-loop-end : goal.invariant-loop-end
invariant-loop-end l = record { few : l.end ≤ length l.text; one : HasNone l.byte (take l.end l.text) }

abbrev pub decreases-loop-end : goal.decreases-loop-end
decreases-loop-end l = length l.text - l.end
