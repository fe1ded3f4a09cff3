use Rattle.std.proofs.Common.{◌≡◌, ◌≤◌, ◌+◌, ◌*◌, ◌^◌, take}
use Rattle.output_gate.specs.Gates.{kept_count}
use Rattle.output_gate.proofs.gate.kept_in.Given as goal

abbrev pub invariant-loop-hart : goal.invariant-loop-hart
invariant-loop-hart l = record {
  sum : l.kept ≡ kept_count (take l.hart l.lines);
  limit : l.kept + l.hart ≤ l.hart * 2 ^ 59;
}
