use Rattle.std.proofs.Common.{◌+◌, ◌≤◌, List, length, drop, All, vec_len, vec_capacity}
use Rattle.std.specs.List.{AllWithin}
use Rattle.edge_log.specs.declared.Edge.{Edge}
use Rattle.edge_log.specs.Rows.{IsRow, TakesAll}
use Rattle.edge_log.proofs.row.add_each.Given as goal

abbrev pub invariant-loop-edge : goal.invariant-loop-edge
invariant-loop-edge l =
    record {
      row : IsRow l.edges.items l.reached.items;
      harts : length l.start ≤ length l.reached.items;
      room : vec_len l.edges + length l.more ≤ vec_capacity l.edges + l.edge-index;
      last : AllWithin (λ e. All (λ x. x.at ≤ e.at) l.edges.items) l.more l.edge-index (length l.more);
      takes :
          (new : List Edge) → TakesAll l.start l.edges.items (drop l.edge-index l.more) new →
          TakesAll l.start l.fn.edges.items l.more new;
    }
