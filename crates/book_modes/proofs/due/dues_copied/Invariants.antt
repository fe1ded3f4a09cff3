use Rattle.std.proofs.Common.{◌≡◌, ◌<◌, ℕ, length, slice_index_or}
use Rattle.ft_types.specs.declared.names.TheConstants.{HART_ROW}
use Rattle.book_modes.specs.Dues.{DueView}
use Rattle.book_modes.proofs.due.dues_copied.Given as goal

abbrev pub invariant-loop-hart : goal.invariant-loop-hart
invariant-loop-hart l = record {
  wide : length l.copied ≡ HART_ROW;
  same : (i : ℕ) (d : DueView) → i < l.hart → slice_index_or l.copied i d ≡ slice_index_or l.due i d;
}
