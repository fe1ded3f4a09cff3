use Rattle.std.proofs.Common.{◌≡◌, ◌≤◌, count_by, take}
use Rattle.ft_types.proofs.sets.HartSet.len.Given as goal

abbrev pub invariant-loop-number : goal.invariant-loop-number
invariant-loop-number l = record {
  few : l.harts ≤ l.number;
  counted : l.harts ≡ count_by (λ member. member) (take l.number l.self);
}
