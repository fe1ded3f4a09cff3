-- What a recording book tells, and what it tells more later.
use Rattle.std.specs.Prelude.{◌≡◌, ◌≤◌, ℕ}
use Rattle.input_log.specs.Inputs.{inputs_of}
use Rattle.input_log.specs.Notes.{notes_of, NotesMore}
use Rattle.hart_lease.specs.Leases.{LeaseView, laid, whole_in}
use Rattle.hart_lease.specs.Runs.{counts_of}
use Rattle.book_modes.specs.declared.keep.Keep.{Keep}
use Rattle.book_modes.specs.Recordings.{RecordingView, IsSettled}
use Rattle.page_book.specs.Books.{BookView, IsOurs}
-- what a hart was given before stays, and the rest was given at its settled count or later
pub use Rattle.input_log.specs.Inputs.{HearsMore}
-- edges of the steps that are settled stay, and all that was said is said
pub use Rattle.edge_log.specs.EdgeLog.{AddsLater}

-- The second book tells all that the first tells of the steps that the first has settled, and no more of those.
pub record TellsOn (b c : BookView RecordingView) : Type 0 where
  pub counts : (hart : ℕ) → counts_of b.machine hart ≤ counts_of c.machine hart
  pub inputs : (hart : ℕ) → HearsMore (inputs_of b.mode.inputs hart) (counts_of b.machine hart) (inputs_of c.mode.inputs hart)
  pub edges : AddsLater b.mode.edges (counts_of b.machine) c.mode.edges
  pub notes : (hart : ℕ) → NotesMore (notes_of b.mode.notes hart) (counts_of b.machine hart) (notes_of c.mode.notes hart)

-- nothing but the notes is another: those of earlier counts are as they were, and no number is forgotten
pub record OnlyNotes (b c : BookView RecordingView) : Type 0 where
  pub book : c ≡ record b { mode = c.mode }
  pub mode : c.mode ≡ record b.mode { notes = c.mode.notes }
  pub notes : (hart : ℕ) → NotesMore (notes_of b.mode.notes hart) (counts_of b.machine hart) (notes_of c.mode.notes hart)

-- a book whose machine, inputs and edges are the same, and whose notes are those that there were and later ones, tells on
abbrev pub TellsTheSame : Type 0
TellsTheSame =
    (b c : BookView RecordingView) → c.machine ≡ b.machine → c.mode.inputs ≡ b.mode.inputs → c.mode.edges ≡ b.mode.edges →
    ((hart : ℕ) → NotesMore (notes_of b.mode.notes hart) (counts_of b.machine hart) (notes_of c.mode.notes hart)) → TellsOn b c

-- one that tells on from one that tells on tells on
abbrev pub TellsFurther : Type 0
TellsFurther = (b c d : BookView RecordingView) → TellsOn b c → TellsOn c d → TellsOn b d

-- and so does a book to which one of its leases came back
abbrev pub SettledTellsOn : Type 0
SettledTellsOn =
    (b c : BookView RecordingView) (l : LeaseView) (keep : Keep) → IsOurs b l → c.machine ≡ laid b.machine (whole_in b.machine l) →
    IsSettled b.mode l keep c.mode → TellsOn b c
