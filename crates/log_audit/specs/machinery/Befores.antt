-- What edges put before steps: private words.
use Rattle.std.specs.Prelude.{ℕ, ◌≡◌, ◌<◌, ◌≤◌, ◌-◌, zero, suc, max, List, [], ◌∷◌, ◌++◌, length, replicate, slice_index, slice_index_or, slice_set, AllPairs}
use Rattle.std.specs.List.{AllWithin}
use Rattle.ft_types.specs.declared.names.TheConstants.{HART_ROW}
use Rattle.ft_types.specs.Counts.{greater}
use Rattle.edge_log.specs.declared.Edge.{Edge}
use Rattle.log_audit.specs.declared.befores.Before.{Before}

-- what comes before a hart's steps, from the counts on
abbrev pub row_of : List (List Before) → ℕ → List Before
row_of rows hart = slice_index_or rows hart []

abbrev pub no_steps : List ℕ
no_steps = replicate HART_ROW 0

-- what the entry in front of this place has
abbrev pub steps_in_front : List Before → ℕ → List ℕ
steps_in_front row zero = no_steps
steps_in_front row (suc n) = (slice_index_or row n (record { since = 0; steps = no_steps })).steps

-- what comes before the hart's step of this count: the last entry that does not come after it
pub record IsLatest (row : List Before) (count : ℕ) (steps : List ℕ) : Type 0 where
  pub place : ℕ
  pub within : place ≤ length row
  pub upto : AllWithin (λ b. b.since ≤ count) row 0 place
  pub after : AllWithin (λ b. count < b.since) row place (length row)
  pub steps_are : steps ≡ steps_in_front row place

-- the steps, with those that an edge names and what comes before the last of these
pub data IsBrought (rows : List (List Before)) (steps : List ℕ) (e : Edge) (all : List ℕ) : Type 0 where
  Nothing : e.after ≡ 0 → all ≡ steps → IsBrought rows steps e all
  More : (below : List ℕ) → 0 < e.after → IsLatest (row_of rows e.other) (e.after - 1) below →
      all ≡ slice_set (greater steps below) e.other (max (slice_index (greater steps below) e.other) e.after) → IsBrought rows steps e all

-- the steps, with what these edges bring, one after the other
pub data AreBrought (rows : List (List Before)) (own : List ℕ) : List Edge → List ℕ → Type 0 where
  NoneYet : AreBrought rows own [] own
  Next : {edges : List Edge} {steps : List ℕ} (e : Edge) (all : List ℕ) → AreBrought rows own edges steps → IsBrought rows steps e all →
      AreBrought rows own (edges ++ e ∷ []) all

-- what comes before the hart's step of this count, which has these edges, and the rows with it
pub record Brings (rows : List (List Before)) (hart count : ℕ) (edges : List Edge) (steps : List ℕ) (new : List (List Before)) : Type 0 where
  pub own : List ℕ
  pub latest : IsLatest (row_of rows hart) count own
  pub brought : AreBrought rows own edges steps
  pub none : edges ≡ [] → new ≡ rows
  pub some : (edges ≡ [] → ⊥) → new ≡ slice_set rows hart (row_of rows hart ++ record { since = count; steps = steps } ∷ [])

-- the counts of each row rise
abbrev pub AreRising : List (List Before) → Type 0
AreRising rows = (hart : ℕ) → AllPairs (λ a b. a.since ≤ b.since) (row_of rows hart)
