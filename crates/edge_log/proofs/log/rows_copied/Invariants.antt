use Rattle.std.proofs.Common.{◌≡◌, ◌<◌, ℕ, length, slice_index_or}
use Rattle.ft_types.specs.declared.names.TheConstants.{HART_ROW}
use Rattle.edge_log.specs.Rows.{EdgesOfOne}
use Rattle.edge_log.proofs.log.rows_copied.Given as goal

abbrev pub invariant-loop-row : goal.invariant-loop-row
invariant-loop-row l = record {
  wide : length l.copied ≡ HART_ROW;
  same : (i : ℕ) (d : EdgesOfOne) → i < l.row → slice_index_or l.copied i d ≡ slice_index_or l.rows i d;
}
