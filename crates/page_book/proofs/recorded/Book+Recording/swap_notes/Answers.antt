use Rattle.std.proofs.Common.{◌≡◌, ◌≤◌, ℕ, List, All, subst, sym, refl}
use Rattle.input_log.specs.Notes.{NotesOfOne, notes_of}
use Rattle.hart_lease.specs.Runs.{counts_of}
use Rattle.book_modes.specs.Recordings.{RecordingView}
use Rattle.page_book.specs.Books.{BookView}
use Rattle.page_book.proofs.Kept.{renoted_book}
use Rattle.page_book.proofs.recorded.Book+Recording.swap_notes.Goals as goal

pub invariant_of-self : goal.invariant_of-self
invariant_of-self c =
    let i = c.self.inside in
    renoted_book i.mode c.swap_notes.new.self i.start i.machine i.journal.items i.leases.value
    (subst (λ (r : RecordingView). r ≡ record i.mode { notes = r.notes }) (sym c.swap_notes.ensures.new) refl)
    (subst (λ (r : RecordingView). (hart : ℕ) → All (λ x. x.0 ≤ counts_of i.machine hart) (notes_of r.notes hart)) (sym c.swap_notes.ensures.new)
    (subst (λ (b : BookView RecordingView). (hart : ℕ) → All (λ x. x.0 ≤ counts_of b.machine hart) (notes_of c.args.notes.now hart)) (sym c.self.view_is)
    c.requires.within)) c.self.invariant

pub returns-clause-within : goal.returns-clause-within
returns-clause-within c hart =
    let i = c.self.inside in
    rw (c.swap_notes.ensures.old, ← c.self.view_is) (c.self.invariant.keeps.noted hart)
