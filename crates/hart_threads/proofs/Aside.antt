-- A book goes on without its notes, and gets them back.
use Rattle.std.proofs.Common.{◌≡◌, ◌≤◌, ℕ, List, All, length, refl, sym, ap, subst, ◌∙◌, le_trans}
use Rattle.std.proofs.lemmas.List.Elements.{All-weaker}
use Rattle.ft_types.specs.Counts.{greater}
use Rattle.input_log.specs.Notes.{NotesOfOne, notes_of}
use Rattle.hart_lease.specs.Runs.{counts_of}
use Rattle.book_modes.specs.Recordings.{RecordingView}
use Rattle.page_book.specs.Books.{BookView}
use Rattle.page_book.proofs.Tellings.{notes_kept}
use Rattle.lease_rounds.specs.Running.{IsIdle, AreAtBudget, Continues, GoToBudget, RunsOn, KeepsOffered}

-- with these notes in place of its own
abbrev pub with_notes : BookView RecordingView → List NotesOfOne → BookView RecordingView
with_notes b notes = record b { mode = record b.mode { notes = notes } }

-- The book as it was handed in, without its notes, where that one went on to, and with the notes again.
module _ (a s b f : BookView RecordingView) (none : List NotesOfOne) (aside : s ≡ with_notes a none) (back : f ≡ with_notes b a.mode.notes) where
  pub continues : Continues s b → Continues a f
  continues p =
      let q = subst (λ (x : BookView RecordingView). Continues x b) aside p in
      subst (λ (x : BookView RecordingView). Continues a x) (sym back)
      (record {
        start = q.start;
        harts = q.harts;
        journal = q.journal;
        inputs = q.inputs;
        edges = q.edges;
        notes = notes_kept a (with_notes b a.mode.notes) refl;
      })

  pub runs : RunsOn s b → RunsOn a f
  runs p = subst (λ (x : BookView RecordingView). RunsOn a x) (sym back) (subst (λ (x : BookView RecordingView). RunsOn x b) aside p)

  pub keeps_offered : KeepsOffered s b → KeepsOffered a f
  keeps_offered p =
      subst (λ (x : BookView RecordingView). KeepsOffered a x) (sym back) (subst (λ (x : BookView RecordingView). KeepsOffered x b) aside p)

  pub to_budget : (budget : List ℕ) → GoToBudget budget s b → GoToBudget budget a f
  to_budget budget p =
      subst (λ (x : BookView RecordingView). GoToBudget budget a x) (sym back) (subst (λ (x : BookView RecordingView). GoToBudget budget x b) aside p)

  pub at_budget : (budget : List ℕ) → AreAtBudget budget b → AreAtBudget budget f
  at_budget budget p = subst (λ (x : BookView RecordingView). AreAtBudget budget x) (sym back) p

  pub idle : IsIdle b → IsIdle f
  idle p = subst (λ (x : BookView RecordingView). IsIdle x) (sym back) p

  pub limits : (budget : List ℕ) → b.mode.limits ≡ greater budget s.mode.limits → f.mode.limits ≡ greater budget a.mode.limits
  limits budget p =
      ap (λ (x : BookView RecordingView). x.mode.limits) back ∙ p ∙ ap (λ (x : BookView RecordingView). greater budget x.mode.limits) aside

-- the notes are at counts that the harts of the book that went on have reached too
pub within_later : (a b : BookView RecordingView) (budget : List ℕ) (notes : List NotesOfOne) → GoToBudget budget a b →
    ((hart : ℕ) → All (λ x. x.0 ≤ counts_of a.machine hart) (notes_of notes hart)) → (hart : ℕ) → All (λ x. x.0 ≤ counts_of b.machine hart) (notes_of notes hart)
within_later a b budget notes on were hart =
    All-weaker (λ x. x.0 ≤ counts_of a.machine hart) (λ x. x.0 ≤ counts_of b.machine hart) (λ x at. le_trans at (on hart).0) (notes_of notes hart) (were hart)
