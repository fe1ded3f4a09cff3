use Rattle.std.proofs.Common.{◌<◌, ◌≤◌, ℕ, slice_index}
use Rattle.ft_types.specs.Counts.{count_at}
use Rattle.leading.proofs.sent.is_of_sent.Given as goal

abbrev pub invariant-loop-number : goal.invariant-loop-number
invariant-loop-number l = (hart : ℕ) → hart < l.number → slice_index l.counts hart ≤ count_at l.sealed.reached hart
