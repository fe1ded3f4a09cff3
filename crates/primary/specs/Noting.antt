-- What is noted of outputs that went out.
use Rattle.std.specs.Prelude.{ℕ, ◌≡◌, ◌≢◌, ◌+◌, ◌==◌, [], ◌∷◌, List, min, Option, Some, None, if◌then◌else◌}
use Rattle.ft_types.specs.declared.output.Output.{Output}
use Rattle.input_log.specs.Notes.{notes_of, noted, HasRoom}
use Rattle.hart_lease.specs.Runs.{counts_of}
use Rattle.book_modes.specs.Recordings.{RecordingView}
use Rattle.page_book.specs.Books.{BookView}

-- the number of the last of the outputs that is the hart's
abbrev pub or_before : Option ℕ → Option ℕ → Option ℕ
or_before None before = before
or_before (Some number) before = Some number

abbrev pub last_of : ℕ → List Output → Option ℕ
last_of hart [] = None
last_of hart (o ∷ rest) = or_before (last_of hart rest) (if o.hart == hart then Some o.number else None)

-- a hart's notes at its count, where outputs of it went out, this one last
abbrev pub noted_to : Option ℕ → ℕ → List (ℕ × ℕ) → List (ℕ × ℕ)
noted_to None count notes = notes
noted_to (Some number) count notes = noted notes count (min (number + 1) count)

-- at the hart's count it is noted which of these outputs went out, and nothing else is done to the book
pub record NotesOne (hart : ℕ) (given : List Output) (b c : BookView RecordingView) : Type 0 where
  pub rest : c ≡ record b { mode = record b.mode { notes = c.mode.notes } }
  pub own : notes_of c.mode.notes hart ≡ noted_to (last_of hart given) (counts_of b.machine hart) (notes_of b.mode.notes hart)
  pub others : (other : ℕ) → other ≢ hart → notes_of c.mode.notes other ≡ notes_of b.mode.notes other
  pub others_room : (other : ℕ) → other ≢ hart → HasRoom b.mode.notes other → HasRoom c.mode.notes other

-- at each hart's count it is noted which of these outputs went out, and nothing else is done to the book
pub record NotesAll (given : List Output) (b c : BookView RecordingView) : Type 0 where
  pub rest : c ≡ record b { mode = record b.mode { notes = c.mode.notes } }
  pub notes : (hart : ℕ) → notes_of c.mode.notes hart ≡ noted_to (last_of hart given) (counts_of b.machine hart) (notes_of b.mode.notes hart)
