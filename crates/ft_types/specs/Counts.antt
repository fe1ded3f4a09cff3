-- Rows of one count per hart, and their order.
use Rattle.std.specs.Prelude.{ℕ, ◌<◌, ◌≤◌, List, [], ◌∷◌, slice_index_or, min, max}
use Rattle.ft_types.specs.declared.names.TheConstants.{COUNT_LIMIT}

-- the count of a hart, 0 where the row has none
abbrev pub count_at : List ℕ → ℕ → ℕ
count_at row hart = slice_index_or row hart 0

-- a count is below COUNT_LIMIT
abbrev pub IsCount : ℕ → Type 0
IsCount n = n < COUNT_LIMIT

-- f of each two that stand at one place
abbrev pub zipped : (ℕ → ℕ → ℕ) → List ℕ → List ℕ → List ℕ
zipped f [] ys = []
zipped f (x ∷ xs) [] = []
zipped f (x ∷ xs) (y ∷ ys) = f x y ∷ zipped f xs ys

-- hart by hart, the smaller of two rows
abbrev pub lesser : List ℕ → List ℕ → List ℕ
lesser a b = zipped min a b

-- hart by hart, the greater of two rows
abbrev pub greater : List ℕ → List ℕ → List ℕ
greater a b = zipped max a b

-- in each hart, a is at most b
abbrev pub IsWithin : List ℕ → List ℕ → Type 0
IsWithin a b = (hart : ℕ) → count_at a hart ≤ count_at b hart
