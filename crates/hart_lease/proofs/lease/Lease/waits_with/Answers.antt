use Rattle.std.proofs.lemmas.Slice.Eq.{slice_eq-Decides}
use Rattle.edge_log.proofs.Equal.{edge_decides}
use Rattle.hart_lease.proofs.lease.Lease.waits_with.Goals as goal

pub returns : goal.returns
returns c =
    rw (← c.self.view_is, ← c.as_slice.ensures) (slice_eq-Decides edge_decides c.as_slice.result.now c.args.edges.now c.same_edges.result c.same_edges.ensures)
