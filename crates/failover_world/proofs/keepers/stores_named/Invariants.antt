use Rattle.std.proofs.Common.{◌≡◌, ◌+◌, ◌-◌, ◌≤◌, length, map, take, vec_len, vec_capacity}
use Rattle.failover_world.specs.Happenings.{stores_of}
use Rattle.failover_world.proofs.keepers.stores_named.Given as goal

abbrev pub invariant-loop-number : goal.invariant-loop-number
invariant-loop-number l =
    (map (λ s. s.0) l.named.items ≡ map (λ s. s.0) (stores_of (take l.number l.stores) l.numbers)) ×
    (map (λ s. s.1.now) l.named.items ≡ map (λ s. s.1) (stores_of (take l.number l.stores) l.numbers)) ×
    (vec_len l.named + (length l.stores - l.number) ≤ vec_capacity l.named)
