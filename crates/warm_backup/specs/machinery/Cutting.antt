-- The part of a leg that is of steps below some counts.
use Rattle.std.specs.Prelude.{◌≡◌, ◌<◌, ◌≤◌, ◌++◌, ◌∷◌, ℕ, zero, suc, List, [], filter, nat_lt, slice_index_or}
use Rattle.ft_types.specs.declared.names.TheConstants.{HART_LIMIT, HART_ROW}
use Rattle.ft_types.specs.Counts.{count_at}
use Rattle.edge_log.specs.EdgeLog.{AddsLater, Edges, row_of}
use Rattle.input_log.specs.declared.Input.{Input}
use Rattle.input_log.specs.Inputs.{inputs_of, HearsMore}
use Rattle.hart_replay.specs.declared.plans.PlannedLeg.{PlannedLeg}

-- a row for each of so many harts
unfoldable pub rows_to : {A : Type 0} → ℕ → (ℕ → List A) → List (List A)
rows_to zero row = []
rows_to (suc n) row = rows_to n row ++ row n ∷ []

-- of each hart's row the elements below the hart's count
abbrev pub rows_below : {A : Type 0} → (A → ℕ) → List ℕ → List (List A) → List (List A)
rows_below at ends rows = rows_to HART_ROW (λ hart. filter (λ x. nat_lt (at x) (count_at ends hart)) (slice_index_or rows hart []))

-- the edges of steps below the counts
abbrev pub edges_below : List ℕ → Edges → Edges
edges_below ends log = record { start = log.start; rows = rows_below (λ e. e.at) ends log.rows }

-- the inputs at counts below them
abbrev pub inputs_below : List ℕ → List (List (ℕ × Input)) → List (List (ℕ × Input))
inputs_below ends log = rows_below (λ x. x.0) ends log

-- the other leg ends no earlier than these counts, has the same edges below them, and of inputs the same and more from there on
pub record RowsBegin (leg later : PlannedLeg) (ends : List ℕ) : Type 0 where
  pub no_earlier : (hart : ℕ) → hart < HART_LIMIT → count_at ends hart ≤ count_at later.ends hart
  pub edges : (hart : ℕ) → hart < HART_LIMIT →
      filter (λ e. nat_lt e.at (count_at ends hart)) (row_of leg.edges hart) ≡ filter (λ e. nat_lt e.at (count_at ends hart)) (row_of later.edges hart)
  pub inputs : (hart : ℕ) → hart < HART_LIMIT →
      HearsMore (filter (λ x. nat_lt x.0 (count_at ends hart)) (inputs_of leg.inputs hart)) (count_at ends hart) (inputs_of later.inputs hart)

-- what the leg has below the counts begins the other
pub record BeginsBelow (leg later : PlannedLeg) (ends : List ℕ) : Type 0 where
  pub no_earlier : (hart : ℕ) → hart < HART_LIMIT → count_at ends hart ≤ count_at later.ends hart
  pub edges : AddsLater (edges_below ends leg.edges) (count_at ends) later.edges
  pub inputs : (hart : ℕ) → hart < HART_LIMIT → HearsMore (inputs_of (inputs_below ends leg.inputs) hart) (count_at ends hart) (inputs_of later.inputs hart)
