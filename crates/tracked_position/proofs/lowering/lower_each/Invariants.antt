use Rattle.std.proofs.Common.{◌≡◌, ◌<◌, ℕ, true, false, Option, length}
use Rattle.ft_types.specs.Counts.{count_at}
use Rattle.closed_cut.specs.Position.{base_of}
use Rattle.tracked_position.specs.machinery.Cuts.{IsHigh}
use Rattle.tracked_position.specs.machinery.Walks.{cursor_at, IsMetFrom}
use Rattle.tracked_position.specs.machinery.Waits.{total}
use Rattle.tracked_position.proofs.lowering.lower_each.Given as goal

abbrev pub invariant-loop-number : goal.invariant-loop-number
invariant-loop-number l =
    record {
      harts : length l.high ≡ length l.initial.high;
      high : (next : Option (ℕ → ℕ)) → IsHigh l.store l.opening.term (base_of l.opening) next (count_at l.initial.high) →
          IsHigh l.store l.opening.term (base_of l.opening) next (count_at l.high);
      same : l.fell ≡ false → l.high ≡ l.initial.high;
      less : l.fell ≡ true → total l.high < total l.initial.high;
      met : l.fell ≡ false → (hart : ℕ) → hart < l.number →
          IsMetFrom l.store l.opening.term (base_of l.opening) (count_at l.initial.high) hart (cursor_at l.cursors hart).place;
    }
