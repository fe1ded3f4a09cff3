-- Sets of small numbers.
use Rattle.std.specs.Prelude.{◌≡◌, ℕ, Bool, true, false, List, slice_index_or}

-- the number is a member of the set that the flags describe
abbrev pub IsMember : List Bool → ℕ → Type 0
IsMember flags n = slice_index_or flags n false ≡ true
