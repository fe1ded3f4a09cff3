use Rattle.std.proofs.Common.{◌≡◌, ◌≤◌, ◌+◌, ◌*◌, ◌^◌, length, take}
use Rattle.pair.proofs.Among.{outputs_of}
use Rattle.pair.proofs.telling.outputs_in_all.Given as goal

abbrev pub invariant-loop-number : goal.invariant-loop-number
invariant-loop-number l = record {
  count : l.outputs ≡ length (outputs_of (take l.number l.machine.harts));
  limit : l.outputs + l.number ≤ l.number * 2 ^ 59;
}
