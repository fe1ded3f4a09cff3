use Rattle.std.proofs.Common.{◌≡◌, ◌+◌, ◌-◌, ◌≤◌, length, map, take, vec_len, vec_capacity}
use Rattle.std.specs.List.{range_with_len}
use Rattle.pair.proofs.warm.stores_of.Given as goal

abbrev pub invariant-loop-one : goal.invariant-loop-one
invariant-loop-one l = record {
  stores : map (λ s. s.1.now) l.stores.items ≡ take l.one-index l.held;
  numbers : map (λ s. s.0) l.stores.items ≡ range_with_len 1 l.one-index;
  room : vec_len l.stores + (length l.held - l.one-index) ≤ vec_capacity l.stores;
  number : l.number ≡ l.one-index;
}
