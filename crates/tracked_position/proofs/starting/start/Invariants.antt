use Rattle.std.proofs.Common.{◌≡◌, ◌<◌, ◌≤◌, ℕ, length}
use Rattle.ft_types.specs.Counts.{count_at}
use Rattle.ft_types.specs.declared.names.TheConstants.{HART_ROW}
use Rattle.tracked_position.specs.declared.walk.Ahead.TheVariants.{Unseen}
use Rattle.tracked_position.specs.machinery.Walks.{cursor_at}
use Rattle.tracked_position.proofs.starting.start.Given as goal

abbrev pub invariant-loop-number : goal.invariant-loop-number
invariant-loop-number l =
    record {
      wide : length l.cursors ≡ HART_ROW;
      first : (hart : ℕ) → hart < l.number → cursor_at l.cursors hart ≡ record { place = 0; end = count_at l.base hart; ahead = Unseen };
      rest : (hart : ℕ) → l.number ≤ hart → cursor_at l.cursors hart ≡ record { place = 0; end = 0; ahead = Unseen };
    }
