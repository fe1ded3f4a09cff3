-- Notes of outputs that were released.
use Rattle.std.specs.Prelude.{◌≡◌, ℕ, ◌≤◌, ◌<◌, max, nat_lt, Bool, true, false, if◌then◌else◌, List, [], ◌∷◌, ◌++◌, filter, slice_index_or, All, AllPairs}

-- a hart's notes, each a count and a number: at the count all its outputs with lower numbers were out
pub record NotesOfOne : Type 0 where
  pub notes : List (ℕ × ℕ)
  pub spare : Bool  -- one more takes no memory

-- by hart; there is nothing of a hart that has no row
abbrev pub nothing_noted : NotesOfOne
nothing_noted = record { notes = []; spare = false }

abbrev pub notes_of : List NotesOfOne → ℕ → List (ℕ × ℕ)
notes_of log hart = (slice_index_or log hart nothing_noted).notes

-- the hart's next note takes no memory
abbrev pub HasRoom : List NotesOfOne → ℕ → Type 0
HasRoom log hart = (slice_index_or log hart nothing_noted).spare ≡ true

-- the greatest number of the notes, 0 where there is none
abbrev pub greatest : List (ℕ × ℕ) → ℕ
greatest [] = 0
greatest (x ∷ notes) = max x.1 (greatest notes)

-- what one more note leaves, whose count is not below the others': it is dropped where its number is not above theirs, and takes
-- the place of one at the same count
abbrev pub noted : List (ℕ × ℕ) → ℕ → ℕ → List (ℕ × ℕ)
noted notes at number = if nat_lt (greatest notes) number then filter (λ x. nat_lt x.0 at) notes ++ (at, number) ∷ [] else notes

-- of two notes the second has the later count, and the greater number
pub record IsNotedBefore (a b : ℕ × ℕ) : Type 0 where
  pub count : a.0 < b.0
  pub number : a.1 < b.1

-- a note tells of an output at least, and of one at each count at the most
pub record IsNote (x : ℕ × ℕ) : Type 0 where
  pub some : 1 ≤ x.1
  pub within : x.1 ≤ x.0

-- one more takes no memory, where the row has so many and a place for so many
abbrev pub IsSpare : Bool → ℕ → ℕ → Type 0
IsSpare spare many capacity = spare ≡ true → many < capacity

pub record AreNotes (notes : List (ℕ × ℕ)) : Type 0 where
  pub rising : AllPairs IsNotedBefore notes
  pub each : All IsNote notes

-- The notes of earlier counts are those that there were, and as great a number is noted as was.
pub record NotesMore (old : List (ℕ × ℕ)) (count : ℕ) (new : List (ℕ × ℕ)) : Type 0 where
  pub below : filter (λ x. nat_lt x.0 count) new ≡ filter (λ x. nat_lt x.0 count) old
  pub kept : greatest old ≤ greatest new
