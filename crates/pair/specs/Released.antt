-- Which outputs of a machine went out.
use Rattle.std.specs.Prelude.{◌≡◌, ◌==◌, ◌&&◌, ◌<◌, ◌≤◌, ◌⊎◌, ℕ, Bool, List, filter, get_or, length}
use Rattle.std.specs.List.{Contains, list_any}
use Rattle.ft_types.specs.declared.output.Output.{Output}
use Rattle.input_log.specs.Notes.{notes_of}
use Rattle.book_modes.specs.Recordings.{RecordingView}
use Rattle.page_book.specs.Books.{BookView}

-- output n of a hart that said this
abbrev pub output_at : ℕ → List (ℕ × ℕ) → ℕ → Output
output_at hart said n = record { hart = hart; number = n; step = (get_or said n (0, 0)).0; word = (get_or said n (0, 0)).1 }

-- of the same hart, with the same number, step and word
abbrev pub is_same : Output → Output → Bool
is_same x y = (x.hart == y.hart) && ((x.number == y.number) && ((x.step == y.step) && (x.word == y.word)))

-- the output is one of these
abbrev pub is_among : List Output → Output → Bool
is_among outputs o = list_any (λ x. is_same x o) outputs

-- a part of the outputs, in their order
abbrev pub IsPartOf : List Output → List Output → Type 0
IsPartOf part outputs = (goes : Output → Bool) × (part ≡ filter goes outputs)

-- the hart's output of this number is one of these
pub record HasGoneOut (released : List Output) (hart number : ℕ) : Type 0 where
  pub output : Output
  pub there : Contains released output
  pub of_hart : output.hart ≡ hart
  pub numbered : output.number ≡ number

-- of each note of a hart, all outputs of the hart with lower numbers are among these
abbrev pub AreNotesOut : BookView RecordingView → List Output → Type 0
AreNotesOut book released =
    (hart number : ℕ) (note : ℕ × ℕ) → hart < length book.machine.harts → Contains (notes_of book.mode.notes hart) note → number < note.1 →
    HasGoneOut released hart number

-- each note of the second book is one of the first, or one of the hart, of so many outputs at the most
abbrev pub NotesUpTo : BookView RecordingView → ℕ → ℕ → BookView RecordingView → Type 0
NotesUpTo old hart many new =
    (other : ℕ) (note : ℕ × ℕ) → Contains (notes_of new.mode.notes other) note →
    Contains (notes_of old.mode.notes other) note ⊎ ((other ≡ hart) × (note.1 ≤ many))
