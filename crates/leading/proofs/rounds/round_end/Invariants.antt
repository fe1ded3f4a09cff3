use Rattle.std.proofs.Common.{◌≡◌, ◌<◌, ◌≤◌, ◌+◌, ◌-◌, ℕ, length}
use Rattle.std.specs.Prelude.{min}
use Rattle.ft_types.specs.declared.names.TheConstants.{COUNT_LIMIT}
use Rattle.ft_types.specs.Counts.{count_at}
use Rattle.leading.proofs.rounds.round_end.Given as goal

abbrev pub invariant-loop-number : goal.invariant-loop-number
invariant-loop-number l = record {
  harts : length l.end ≡ length l.counts;
  least : (hart : ℕ) → count_at l.counts hart ≤ count_at l.end hart;
  most : (hart : ℕ) → count_at l.end hart ≤ count_at l.counts hart + l.steps;
  far : (hart : ℕ) → hart < l.number → min (count_at l.counts hart + l.steps) (COUNT_LIMIT - 1) ≤ count_at l.end hart;
}
