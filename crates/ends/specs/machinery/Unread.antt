-- How much of what was left for an output is not known to be read.
use Rattle.std.specs.Prelude.{◌≡◌, ◌-◌, ◌^◌, ℕ, List, [], ◌∷◌, ◌++◌, min}
use Rattle.std.specs.List.{sum}
use Rattle.ends.specs.declared.unread.Unread.{Unread}

-- pieces of these sizes, in the order in which they were left, are counted, up to the greatest number that there is, and so is the last of them
pub record Counts (sizes : List ℕ) (unread : Unread) : Type 0 where
  pub all : unread.bytes ≡ min (sum sizes) (2 ^ 64 - 1)
  pub last : (front : List ℕ) (size : ℕ) → sizes ≡ front ++ (size ∷ []) → unread.last ≡ size
