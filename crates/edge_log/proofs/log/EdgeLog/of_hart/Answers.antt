use Rattle.std.proofs.Common.{◌≡◌, [], get_or, map, sym, ap, arith, ◌∙◌}
use Rattle.edge_log.proofs.Logs.{edges_at_map}
use Rattle.edge_log.proofs.log.EdgeLog.of_hart.Goals as goal

pub returns-clause-own : goal.returns-clause-own
returns-clause-own c =
    let at : get_or (map (λ r. r.edges) c.self.inside.rows) c.index.result [] ≡ c.edges.result.now =
    edges_at_map c.self.inside.rows c.index.result c.index-self-index.result (omega arith) ∙ sym c.edges.ensures.value in
    let own = c.self.invariant.own c.index.result in
    let start = ap (λ v. v.start) c.self.view_is in
    rw (← c.index.ensures.value, ← start) (rw at at own)
