-- Bytes that are added to what is said.
use Rattle.std.specs.Prelude.{◌≡◌, ℕ, List, ◌++◌}

-- of the bytes that were added a fact holds
abbrev pub Adds : List ℕ → List ℕ → (List ℕ → Type 0) → Type 0
Adds old new Fact = (more : List ℕ) × (new ≡ old ++ more) × Fact more
