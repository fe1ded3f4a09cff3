use Rattle.std.proofs.Common.{◌≡◌, ◌≤◌, length, count_by, take}
use Rattle.go_live.proofs.quorum.suffice.Given as goal

abbrev pub invariant-loop-number : goal.invariant-loop-number
invariant-loop-number l = record {
  few : l.here ≤ l.number;
  sized : length l.set ≡ 5;
  counted : l.here ≡ count_by (λ member. member) (take l.number l.set);
}
