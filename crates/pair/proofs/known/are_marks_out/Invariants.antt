use Rattle.std.proofs.Common.{◌<◌, ◌≤◌, ℕ, slice_index}
use Rattle.ft_types.specs.Counts.{count_at}
use Rattle.pair.proofs.known.are_marks_out.Given as goal

abbrev pub invariant-loop-number : goal.invariant-loop-number
invariant-loop-number l = (hart : ℕ) → hart < l.number → count_at l.marks hart ≤ slice_index l.many hart
