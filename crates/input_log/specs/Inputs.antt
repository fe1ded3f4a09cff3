-- Inputs at counts.
use Rattle.std.specs.Prelude.{ℕ, ◌≡◌, ◌≢◌, ◌<◌, ◌≤◌, ◌==◌, ◌++◌, ◌^◌, Bool, true, false, List, [], map, filter, zip, length, slice_index_or, All}
use Rattle.std.specs.List.Sorted.{IsNonDecreasing}
use Rattle.ft_types.specs.declared.names.TheConstants.{HART_ROW, INPUT_LIMIT}
use Rattle.input_log.specs.declared.Input.{Input}
use Rattle.input_log.specs.declared.Input.TheVariants as input

-- a hart rang
abbrev pub is_bell : Input → Bool
is_bell input.Timer = false
is_bell (input.Word w) = false
is_bell (input.Bell source) = true

-- of a machine with so many harts: a word has 32 bits, and a bell was rung by one of them
abbrev pub IsInputOf : ℕ → Input → Type 0
IsInputOf harts input.Timer = Unit {0}
IsInputOf harts (input.Word w) = w < 2 ^ 32
IsInputOf harts (input.Bell source) = source < harts

-- a hart's inputs, each beside its count
abbrev pub inputs_of : List (List (ℕ × Input)) → ℕ → List (ℕ × Input)
inputs_of log hart = slice_index_or log hart []

-- those of one count, in their order
abbrev pub inputs_at : List (ℕ × Input) → ℕ → List Input
inputs_at row n = map (λ x. x.1) (filter (λ x. x.0 == n) row)

-- an input at this count may be added: none is at a later one, and fewer than INPUT_LIMIT are at it
pub record MayFollow (row : List (ℕ × Input)) (n : ℕ) : Type 0 where
  pub last : All (λ x. x.0 ≤ n) row
  pub room : length (inputs_at row n) < INPUT_LIMIT

-- a row: each input has a count, the counts rise, and INPUT_LIMIT are at each at the most
pub record IsRow (counts : List ℕ) (inputs : List Input) : Type 0 where
  pub paired : length inputs ≡ length counts
  pub rising : IsNonDecreasing counts
  pub few : (n : ℕ) → length (inputs_at (zip counts inputs) n) ≤ INPUT_LIMIT

-- a log is another one, with these behind the others of a hart
pub record AreAddedTo (before : List (List (ℕ × Input))) (hart : ℕ) (added : List (ℕ × Input)) (log : List (List (ℕ × Input))) : Type 0 where
  pub harts : length before ≡ HART_ROW
  pub row : inputs_of log hart ≡ inputs_of before hart ++ added
  pub others : (other : ℕ) → other ≢ hart → inputs_of log other ≡ inputs_of before other

-- what a hart was given before stays, and the rest was given at its settled count or later
abbrev pub HearsMore : List (ℕ × Input) → ℕ → List (ℕ × Input) → Type 0
HearsMore before count after = (more : List (ℕ × Input)) × (after ≡ before ++ more) × All (λ x. count ≤ x.0) more
