use Rattle.std.proofs.Common.{Any, take}
use Rattle.edge_log.specs.Rows.{AsksAsMuch}
use Rattle.edge_log.proofs.row.says_as_much.Given as goal

abbrev pub invariant-loop-by : goal.invariant-loop-by
invariant-loop-by l = Any (λ by. AsksAsMuch by l.edge) (take l.by-index l.edges) → ⊥
