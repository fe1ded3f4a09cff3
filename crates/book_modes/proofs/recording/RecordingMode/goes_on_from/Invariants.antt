use Rattle.std.proofs.Common.{ℕ, ◌<◌}
use Rattle.ft_types.specs.Counts.{count_at}
use Rattle.book_modes.specs.Recordings.{KeepsInputs}
use Rattle.book_modes.proofs.recording.RecordingMode.goes_on_from.Given as goal

abbrev pub invariant-loop-number : goal.invariant-loop-number
invariant-loop-number l = (h : ℕ) → h < l.number → KeepsInputs l.before h (count_at l.settled h) l.self (count_at l.now h)
