use Rattle.std.proofs.Common.{◌≡◌, ◌<◌, ◌^◌, ◌++◌}
use Rattle.closed_cut.specs.Position.{Goes, pieces_of}
use Rattle.closed_cut.specs.machinery.Walks.{hart_edges}
use Rattle.closed_cut.proofs.gathering.gather.Given as goal

abbrev pub invariant-loop-place : goal.invariant-loop-place
invariant-loop-place l =
    record {
      goes : Goes (pieces_of l.store l.term l.hart) l.from l.place l.end;
      limit : l.end < 2 ^ 48;
      edges : l.edges.items ≡ l.initial.edges.items ++ hart_edges (pieces_of l.store l.term l.hart) l.place;
    }
