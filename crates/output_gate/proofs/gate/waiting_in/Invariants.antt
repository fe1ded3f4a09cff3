use Rattle.std.proofs.Common.{◌≡◌, ◌≤◌, ◌+◌, ◌*◌, ◌^◌, take}
use Rattle.output_gate.specs.Gates.{waiting_count}
use Rattle.output_gate.proofs.gate.waiting_in.Given as goal

abbrev pub invariant-loop-hart : goal.invariant-loop-hart
invariant-loop-hart l = record {
  sum : l.waiting ≡ waiting_count (take l.hart l.lines);
  limit : l.waiting + l.hart ≤ l.hart * 2 ^ 59;
}
