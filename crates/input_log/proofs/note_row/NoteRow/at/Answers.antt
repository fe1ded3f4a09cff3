use Rattle.std.proofs.Common.{◌≡◌, ◌≢◌, ◌<◌, ◌∙◌, ℕ, List, All, length, get_or, subst, sym, ap, arith}
use Rattle.input_log.specs.Notes.{AreNotes}
use Rattle.std.proofs.lemmas.List.{get_or_default}
use Rattle.input_log.proofs.Notings.{none_at}
use Rattle.input_log.proofs.note_row.NoteRow.at.Goals.{then-place-notes-via-then-place-notes, then-place-notes-via-else-place-notes+then-notes-place}
use Rattle.input_log.proofs.note_row.NoteRow.at.Goals as goal

pub returns-then-place-notes-clause-none : goal.returns-then-place-notes-clause-none
returns-then-place-notes-clause-none c =
    let xs = c.as_slice-notes.result.now in
    let is = c.as_slice-notes.ensures.value ∙ ap (λ v. v.notes) c.self.view_is in
    let i = c.first_from-place.result in
    let other : (d : ℕ × ℕ) → i < length xs → (get_or xs i d).0 ≢ c.args.count =
    elim c.then-place-notes.branch [
      | then-place-notes-via-then-place-notes w ↦ λ d below. absurd (let e : i ≡ length xs = w.if-place-notes.true in omega arith)
      | then-place-notes-via-else-place-notes+then-notes-place w ↦
          λ d below. subst (λ (x : ℕ × ℕ). x.0 ≢ c.args.count) (get_or_default xs i (0, 0) d below) w.if-notes-place.true
    ] in
    subst (λ (l : List (ℕ × ℕ)). All (λ x. x.0 ≢ c.args.count) l) is
    (none_at xs c.args.count i (subst AreNotes (sym c.as_slice-notes.ensures.value) c.self.invariant.0) c.first_from-place.ensures.before
    c.first_from-place.ensures.from other)
