use Rattle.std.proofs.Common.{ℕ, ◌<◌, [], map, get_or}
use Rattle.ft_types.specs.Counts.{count_at}
use Rattle.edge_log.specs.Rows.{SayOn}
use Rattle.edge_log.proofs.log.rows_say_on.Given as goal

abbrev pub invariant-loop-hart : goal.invariant-loop-hart
invariant-loop-hart l = (h : ℕ) → h < l.hart →
    SayOn (get_or (map (λ r. r.edges) l.before) h []) (count_at l.settled h) (get_or (map (λ r. r.edges) l.rows) h [])
