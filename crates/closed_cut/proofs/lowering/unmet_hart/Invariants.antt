use Rattle.std.proofs.Common.{◌<◌, ◌≤◌, ℕ, get_or}
use Rattle.std.specs.List.{AllWithin}
use Rattle.ft_types.specs.Counts.{count_at}
use Rattle.closed_cut.proofs.lowering.unmet_hart.Given as goal

abbrev pub invariant-loop-number : goal.invariant-loop-number
invariant-loop-number l = (hart : ℕ) → hart < l.number → AllWithin (λ e. e.after ≤ count_at l.cut hart) l.edges 0 (get_or l.ends hart 0)
