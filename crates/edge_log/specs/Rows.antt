-- The edges of one hart, in their order.
use Rattle.std.specs.Prelude.{ℕ, ◌≡◌, ◌<◌, ◌≤◌, ◌⊎◌, List, [], ◌∷◌, ◌++◌, length, slice_index, All, AllPairs, Any, Contains, filter, nat_lt}
use Rattle.std.specs.List.{HoldsAt}
use Rattle.ft_types.specs.Counts.{count_at}
use Rattle.ft_types.specs.declared.names.TheConstants.{HART_LIMIT}
use Rattle.edge_log.specs.declared.Edge.{Edge}

-- a's step is no later than b's, and at the same step a's other hart is lower
pub record ComesBefore (a b : Edge) : Type 0 where
  pub no_later : a.at ≤ b.at
  pub lower : a.at ≡ b.at → a.other < b.other

-- b's step is no later than a's, and at the same step b's other hart is no higher
pub record CannotComeBefore (a b : Edge) : Type 0 where
  pub no_earlier : b.at ≤ a.at
  pub no_lower : a.at ≡ b.at → b.other ≤ a.other

-- both are to the same hart, at the same step
pub record IsTwin (a b : Edge) : Type 0 where
  pub at : a.at ≡ b.at
  pub other : a.other ≡ b.other

-- such an edge stands at the place
abbrev pub TwinStands : List Edge → ℕ → Edge → Type 0
TwinStands edges place edge = (place < length edges) × HoldsAt (λ e. IsTwin e edge) edges place

-- the edge is put in its place, where an edge to the same hart at the same step makes way
pub record IsPut (old : List Edge) (edge : Edge) (new : List Edge) : Type 0 where
  pub front : List Edge
  pub twin : List Edge
  pub back : List Edge
  pub was : old ≡ front ++ (twin ++ back)
  pub is : new ≡ front ++ edge ∷ back
  pub before : All (λ e. ComesBefore e edge) front
  pub made_way : All (λ e. IsTwin e edge) twin
  pub behind : All (λ e. ComesBefore edge e) back

-- an edge to the same hart, at no later step, asks for as many of its steps
pub record AsksAsMuch (by edge : Edge) : Type 0 where
  pub other : by.other ≡ edge.other
  pub at : by.at ≤ edge.at
  pub after : edge.after ≤ by.after

-- one of the edges asks for as much
abbrev pub SaysAsMuch : List Edge → Edge → Type 0
SaysAsMuch edges edge = (by : Edge) × Contains edges by × AsksAsMuch by edge

-- Of the steps before the count the edges say what they said, and no more; and all that was said is said.
pub record SayOn (old : List Edge) (count : ℕ) (new : List Edge) : Type 0 where
  pub below : filter (λ e. nat_lt e.at count) new ≡ filter (λ e. nat_lt e.at count) old
  pub said : All (λ e. Any (λ by. AsksAsMuch by e) new) old

-- the start says as much, or one of the edges
abbrev pub IsSaid : List ℕ → List Edge → Edge → Type 0
IsSaid start edges edge = (edge.after ≤ count_at start edge.other) ⊎ SaysAsMuch edges edge

-- what adding an edge to those of its hart leaves: the same where it is said already, else it is put in its place
pub data Takes (start : List ℕ) (old : List Edge) (edge : Edge) (new : List Edge) : Type 0 where
  Said : IsSaid start old edge → new ≡ old → Takes start old edge new
  Put : (IsSaid start old edge → ⊥) → IsPut old edge new → Takes start old edge new

-- what adding edges one after another leaves
abbrev pub TakesAll : List ℕ → List Edge → List Edge → List Edge → Type 0
TakesAll start old [] new = new ≡ old
TakesAll start old (edge ∷ rest) new = (now : List Edge) × Takes start old edge now × TakesAll start now rest new

-- a row, with the greatest count that its edges ask of each hart, 0 where there is none
pub record EdgesOfOne : Type 0 where
  pub edges : List Edge
  pub reached : List ℕ

-- an edge to the hart asks for this
pub record AsksFor (hart count : ℕ) (edge : Edge) : Type 0 where
  pub other : edge.other ≡ hart
  pub after : edge.after ≡ count

pub record IsRow (edges : List Edge) (reached : List ℕ) : Type 0 where
  pub rising : AllPairs ComesBefore edges
  pub others : All (λ e. e.other < HART_LIMIT) edges
  pub most : All (λ e. e.after ≤ slice_index reached e.other) edges
  pub asked : (hart : ℕ) → hart < HART_LIMIT → 0 < slice_index reached hart →
      (e : Edge) × Contains edges e × AsksFor hart (slice_index reached hart) e
