use Rattle.std.proofs.Common.{ap, ◌∙◌}
use Rattle.std.proofs.lemmas.Slice.Eq.{slice_eq-Decides}
use Rattle.edge_log.proofs.Equal.{edge_decides}
use Rattle.edge_log.proofs.row.Row.has_edges_of.Goals as goal

pub returns : goal.returns
returns c =
    let mine = c.as_slice.ensures.value ∙ ap (λ r. r.edges) c.self.view_is in
    let theirs = c.as_slice-2.ensures.value ∙ ap (λ r. r.edges) c.other.view_is in
    rw (← mine, ← theirs)
    (slice_eq-Decides edge_decides c.as_slice.result.now c.as_slice-2.result.now c.same_edges.result c.same_edges.ensures)
