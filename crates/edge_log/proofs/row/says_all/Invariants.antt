use Rattle.std.proofs.Common.{Any}
use Rattle.std.specs.List.{AllWithin}
use Rattle.edge_log.specs.Rows.{AsksAsMuch}
use Rattle.edge_log.proofs.row.says_all.Given as goal

abbrev pub invariant-loop-edge : goal.invariant-loop-edge
invariant-loop-edge l = AllWithin (λ e. Any (λ by. AsksAsMuch by e) l.edges) l.said 0 l.edge-index
