-- How keepers are counted.
use Rattle.std.specs.Prelude.{ℕ, Bool, List, true, slice_set, if◌then◌else◌, count_by}

-- these keepers, with this one too where it is said so
abbrev pub with_if : List Bool → ℕ → Bool → List Bool
with_if keepers keeper is_one = if is_one then slice_set keepers keeper true else keepers

-- how many they are
abbrev pub how_many : List Bool → ℕ
how_many keepers = count_by (λ member. member) keepers
