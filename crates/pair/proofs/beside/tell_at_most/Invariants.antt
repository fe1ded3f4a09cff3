use Rattle.std.proofs.Common.{◌≤◌, ℕ, take}
use Rattle.std.specs.List.{Contains}
use Rattle.pair.proofs.beside.tell_at_most.Given as goal

abbrev pub invariant-loop-note : goal.invariant-loop-note
invariant-loop-note l = (note : ℕ × ℕ) → Contains (take l.note-index l.notes) note → note.1 ≤ l.many
