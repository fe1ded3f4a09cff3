use Rattle.std.proofs.Common.{◌≡◌, take}
use Rattle.hart_lease.specs.declared.lent.TheConstants.{EDGE_ROOM}
use Rattle.book_modes.specs.Dues.{bell_edges}
use Rattle.book_modes.proofs.due.edges_of.Given as goal

abbrev pub invariant-loop-bell : goal.invariant-loop-bell
invariant-loop-bell l = record {
  so_far : l.edges.items ≡ bell_edges l.hart l.count (take l.bell-index l.bells);
  inline : l.edges.capacity ≡ EDGE_ROOM;
}
