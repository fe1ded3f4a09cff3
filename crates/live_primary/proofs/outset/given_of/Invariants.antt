use Rattle.std.proofs.Common.{◌≡◌, ◌+◌, ◌-◌, ◌≤◌, length, map, take, vec_len, vec_capacity}
use Rattle.live_primary.proofs.outset.given_of.Given as goal

abbrev pub invariant-loop-log : goal.invariant-loop-log
invariant-loop-log l =
    (map (λ g. g.keeper) l.given.items ≡ take l.log-index (map (λ l. l.keeper) l.logs)) ×
    (map (λ g. g.term) l.given.items ≡ take l.log-index (map (λ l. l.term) l.logs)) ×
    (map (λ g. g.store.now) l.given.items ≡ take l.log-index (map (λ l. l.store) l.logs)) ×
    (vec_len l.given + (length l.logs - l.log-index) ≤ vec_capacity l.given)
