use Rattle.std.proofs.Common.{ℕ, ◌<◌}
use Rattle.ft_types.specs.Counts.{count_at}
use Rattle.input_log.specs.Notes.{notes_of, NotesMore}
use Rattle.input_log.proofs.note_log.rows_note_more.Given as goal

abbrev pub invariant-loop-hart : goal.invariant-loop-hart
invariant-loop-hart l = (h : ℕ) → h < l.hart → NotesMore (notes_of l.before h) (count_at l.settled h) (notes_of l.rows h)
