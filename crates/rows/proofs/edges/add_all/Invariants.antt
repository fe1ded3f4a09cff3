use Rattle.std.proofs.Common.{◌≡◌, ℕ, ◌<◌, ◌≤◌, get_or}
use Rattle.std.specs.List.{AllWithin}
use Rattle.edge_log.specs.declared.Edge.{Edge}
use Rattle.edge_log.specs.EdgeLog.{MayAdd}
use Rattle.rows.proofs.edges.add_all.Given as goal

abbrev pub invariant-loop-edge : goal.invariant-loop-edge
invariant-loop-edge l =
    record {
      own : AllWithin (λ e. e.hart ≡ l.hart) l.edges 0 l.edge-index;
      each : AllWithin (λ e. MayAdd l.log e) l.edges 0 l.edge-index;
      by_last : AllWithin (λ e. e.at ≤ l.last) l.edges 0 l.edge-index;
      rising : (i j : ℕ) (d : Edge) → i < j → j < l.edge-index → (get_or l.edges i d).at ≤ (get_or l.edges j d).at;
    }
