use Rattle.std.proofs.Common.{◌≡◌, ◌≤◌, ◌<◌, ℕ, nat_lt}
use Rattle.std.specs.List.{filter}
use Rattle.ft_types.specs.Counts.{count_at}
use Rattle.edge_log.specs.EdgeLog.{row_of}
use Rattle.input_log.specs.Inputs.{inputs_of, HearsMore}
use Rattle.warm_backup.proofs.slices.rows_begin.Given as goal

abbrev pub invariant-loop-number : goal.invariant-loop-number
invariant-loop-number l =
    record {
      no_earlier : (hart : ℕ) → hart < l.number → count_at l.ends hart ≤ count_at l.later.ends hart;
      edges : (hart : ℕ) → hart < l.number →
          filter (λ e. nat_lt e.at (count_at l.ends hart)) (row_of l.leg.edges hart) ≡ filter (λ e. nat_lt e.at (count_at l.ends hart)) (row_of l.later.edges hart);
      inputs : (hart : ℕ) → hart < l.number →
          HearsMore (filter (λ x. nat_lt x.0 (count_at l.ends hart)) (inputs_of l.leg.inputs hart)) (count_at l.ends hart) (inputs_of l.later.inputs hart);
    }
