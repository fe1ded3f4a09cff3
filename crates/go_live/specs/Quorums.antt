-- Whether a primary may go live with these keepers' stores, in this term.
use Rattle.std.specs.Prelude.{ℕ, zero, suc, Bool, false, ◌≡◌, ◌≢◌, ◌<◌, ◌≤◌, ◌+◌, ◌-◌, ◌==◌, ◌⊎◌, List, All, Contains, slice_index_or, if◌then◌else◌}
use Rattle.std.specs.List.{list_any, Any}
use Rattle.fragment_codec.specs.declared.types.Key.{Key}
use Rattle.log_join.specs.Cells.{Absent}
use Rattle.log_join.specs.Stores.{StoreView, opening_at, fragment_at}

-- how many of the numbers below this one are in the list, each counted once
abbrev pub distinct_below : ℕ → List ℕ → ℕ
distinct_below zero here = 0
distinct_below (suc n) here = if list_any (λ m. m == n) here then distinct_below n here + 1 else distinct_below n here

-- Any `need` of the keepers, which are the numbers below `keepers`, have one in common with those that are here (`EnoughMeetAny`).
-- A number that is no keeper's counts for nothing.
abbrev pub AreEnough : ℕ → ℕ → List ℕ → Type 0
AreEnough keepers need here = keepers - need + 1 ≤ distinct_below keepers here

-- they are more than half of the keepers, so that any two such sets have one in common (`MostMeetMost`)
abbrev pub MostOf : ℕ → List ℕ → Type 0
MostOf keepers here = keepers < distinct_below keepers here + distinct_below keepers here

-- a keeper is among the ones and among the others
abbrev pub ShareOne : ℕ → List ℕ → List ℕ → Type 0
ShareOne keepers ones others = (k : ℕ) × (k < keepers) × Contains ones k × Contains others k

-- so many that they are enough and any `need` of the keepers share one
abbrev pub EnoughMeetAny : Type 0
EnoughMeetAny = (keepers need : ℕ) (here holders : List ℕ) → AreEnough keepers need here → need ≤ distinct_below keepers holders →
    ShareOne keepers here holders

-- so do two sets of more than half of them
abbrev pub MostMeetMost : Type 0
MostMeetMost = (keepers : ℕ) (ones others : List ℕ) → MostOf keepers ones → MostOf keepers others → ShareOne keepers ones others

-- the members of the set are the numbers in the list
abbrev pub AreMembers : List Bool → List ℕ → Type 0
AreMembers set here = (n : ℕ) → slice_index_or set n false ≡ list_any (λ m. m == n) here

-- the store has a key of the term, be it one that clashes
abbrev pub HasTerm : StoreView → ℕ → Type 0
HasTerm store term = (opening_at store term ≢ Absent) ⊎ ((key : Key) × (key.term ≡ term) × (fragment_at store key ≢ Absent))

-- the term is granted, and later than that of every key in the stores
pub record IsNew (stores : List StoreView) (term : ℕ) : Type 0 where
  pub granted : 1 ≤ term
  pub later : All (λ store. (other : ℕ) → HasTerm store other → other < term) stores

-- it is 0, or not later than that of some key
abbrev pub IsOld : List StoreView → ℕ → Type 0
IsOld stores term = (term ≡ 0) ⊎ Any (λ store. (other : ℕ) × (term ≤ other) × HasTerm store other) stores
