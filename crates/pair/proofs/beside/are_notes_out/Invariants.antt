use Rattle.std.proofs.Common.{◌<◌, ◌≤◌, ℕ, slice_index}
use Rattle.std.specs.List.{Contains}
use Rattle.input_log.specs.Notes.{notes_of}
use Rattle.pair.proofs.beside.are_notes_out.Given as goal

abbrev pub invariant-loop-number : goal.invariant-loop-number
invariant-loop-number l =
    (hart : ℕ) (note : ℕ × ℕ) → hart < l.number → Contains (notes_of l.book.mode.notes hart) note → note.1 ≤ slice_index l.many hart
