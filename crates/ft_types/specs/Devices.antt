-- What a device was given, and how often it failed.
use Rattle.std.specs.Prelude.{◌≡◌, ℕ, ◌+◌, ◌%◌, ◌^◌, List, ◌++◌, Option, Result, Ok, Err}
use Rattle.std.specs.Io.KnownBytes.{Appends}

-- one failure more, in a count that goes round at 2 ^ 64
abbrev pub IsOneMore : ℕ → ℕ → Type 0
IsOneMore old new = new ≡ (old + 1) % 2 ^ 64

-- The writer took the whole text and did not fail, or it failed once and had taken a beginning of the text.
-- old and new are its bytes before and after, f and g its counts of failures.
abbrev pub Writes : {A E : Type 0} → Result A E → Option (List ℕ) → Option (List ℕ) → ℕ → ℕ → List ℕ → Type 0
Writes (Ok x) old new f g text = Appends old new text × (g ≡ f)
Writes (Err e) old new f g text = IsOneMore f g × ((front : List ℕ) × (rest : List ℕ) × (text ≡ front ++ rest) × Appends old new front)
