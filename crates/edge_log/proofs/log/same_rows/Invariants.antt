use Rattle.std.proofs.Common.{◌≡◌, map, take}
use Rattle.edge_log.proofs.log.same_rows.Given as goal

abbrev pub invariant-loop-hart : goal.invariant-loop-hart
invariant-loop-hart l = take l.hart (map (λ r. r.edges) l.rows) ≡ take l.hart (map (λ r. r.edges) l.others)
