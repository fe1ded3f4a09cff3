use Rattle.std.proofs.Common.{◌≡◌, ◌+◌, ◌-◌, ◌≤◌, length, map, take, vec_len, vec_capacity}
use Rattle.live_primary.proofs.outset.remove_all.Given as goal

abbrev pub invariant-loop-number : goal.invariant-loop-number
invariant-loop-number g l =
    (map (λ file. file.name) l.removed.items ≡ take l.number l.names) ×
    (vec_len l.removed + (length l.names - l.number) ≤ vec_capacity l.removed)
