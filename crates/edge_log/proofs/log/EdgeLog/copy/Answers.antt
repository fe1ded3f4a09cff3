use Rattle.std.proofs.Common.{List, map, subst, sym, ap, ◌∙◌}
use Rattle.edge_log.specs.Rows.{EdgesOfOne}
use Rattle.edge_log.specs.EdgeLog.{IsLog, Edges}
use Rattle.edge_log.proofs.log.EdgeLog.copy.Goals as goal

pub invariant_of-result : goal.invariant_of-result
invariant_of-result c =
    subst (λ (rows : List EdgesOfOne). IsLog c.self.inside.start (map (λ r. r.edges) rows)) (sym c.in_ok-rows.ensures) c.self.invariant

pub returns : goal.returns
returns c =
    ap (λ (rows : List EdgesOfOne). let v : Edges = record { start = c.self.inside.start; rows = map (λ r. r.edges) rows } in v) c.in_ok-rows.ensures
    ∙ c.self.view_is
