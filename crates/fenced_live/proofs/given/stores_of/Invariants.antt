use Rattle.std.proofs.Common.{◌≡◌, ◌+◌, ◌-◌, ◌≤◌, length, map, take, vec_len, vec_capacity}
use Rattle.fenced_live.proofs.given.stores_of.Given as goal

abbrev pub invariant-loop-one : goal.invariant-loop-one
invariant-loop-one l =
    (map (λ s. s.0) l.stores.items ≡ take l.one-index (map (λ g. g.keeper) l.given)) ×
    (map (λ s. s.1.now) l.stores.items ≡ take l.one-index (map (λ g. g.store.now) l.given)) ×
    (vec_len l.stores + (length l.given - l.one-index) ≤ vec_capacity l.stores)
