use Rattle.std.proofs.Common.{◌≡◌, ◌<◌, ℕ, length}
use Rattle.ft_types.specs.Counts.{count_at}
use Rattle.ft_types.specs.declared.names.TheConstants.{HART_ROW}
use Rattle.warm_backup.specs.machinery.Growing.{cursor_at}
use Rattle.warm_backup.proofs.growing.cursors_at.Given as goal

abbrev pub invariant-loop-number : goal.invariant-loop-number
invariant-loop-number l =
    record {
      wide : length l.cursors ≡ HART_ROW;
      each : (hart : ℕ) → hart < l.number → cursor_at l.cursors hart ≡ record { place = 0; end = count_at l.base hart };
    }
