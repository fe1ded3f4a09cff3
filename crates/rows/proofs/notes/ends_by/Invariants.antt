use Rattle.std.proofs.Common.{◌≤◌}
use Rattle.std.specs.List.{AllWithin}
use Rattle.rows.proofs.notes.ends_by.Given as goal

abbrev pub invariant-loop-note : goal.invariant-loop-note
invariant-loop-note l = AllWithin (λ x. x.0 ≤ l.count) l.notes 0 l.note-index
