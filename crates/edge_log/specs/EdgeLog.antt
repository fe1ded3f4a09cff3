-- Logs of edges, and what they say in the theory's words.
use Rattle.std.specs.Prelude.{ℕ, ◌≡◌, ◌≢◌, ◌<◌, ◌≤◌, List, [], ◌∷◌, length, slice_index_or, map, All}
use Rattle.std.specs.List.{flat_map}
use Rattle.ft_types.specs.Counts.{count_at}
use Rattle.ft_types.specs.declared.names.TheConstants.{HART_LIMIT, HART_ROW}
use Rattle.interleaving.specs.Log as theory
use Rattle.interleaving.specs.Cuts.{IsImplied}
use Rattle.edge_log.specs.declared.Edge.{Edge}
use Rattle.edge_log.specs.Rows.{IsPut, SayOn}

-- the counts that it begins at, and each hart's edges, by rising step and other hart
pub record Edges : Type 0 where
  pub start : List ℕ
  pub rows : List (List Edge)

-- a hart's edges
abbrev pub row_of : Edges → ℕ → List Edge
row_of log hart = slice_index_or log.rows hart []

-- an edge, in the theory's words
abbrev pub edge_as : Edge → theory.Edge
edge_as e = record { hart = e.hart; step = e.at; other = e.other; count = e.after }

-- the edges of all harts, in the theory's words
abbrev pub edges_of : Edges → List theory.Edge
edges_of log = flat_map (map edge_as) log.rows

-- each hart's count at the start
abbrev pub start_of : Edges → ℕ → ℕ
start_of log = count_at log.start

-- an edge between the machine's harts, at no step before the start, nor before that of an edge of its hart in the log
pub record MayAdd (log : Edges) (e : Edge) : Type 0 where
  pub hart : e.hart < length log.start
  pub other : e.other < length log.start
  pub from_start : count_at log.start e.hart ≤ e.at
  pub last : All (λ x. x.at ≤ e.at) (row_of log e.hart)

-- the edge is in its place in its hart's row, and the rest is as it was
pub record IsPutInLog (old : Edges) (edge : Edge) (new : Edges) : Type 0 where
  pub start : new.start ≡ old.start
  pub row : IsPut (row_of old edge.hart) edge (row_of new edge.hart)
  pub others : (hart : ℕ) → hart ≢ edge.hart → row_of new hart ≡ row_of old hart

-- what adding an edge leaves: the same log where it is implied, else the edge in its place
pub data IsAdded (old : Edges) (edge : Edge) (new : Edges) : Type 0 where
  Stays : IsImplied (edges_of old) (start_of old) (edge_as edge) → new ≡ old → IsAdded old edge new
  Enters : (IsImplied (edges_of old) (start_of old) (edge_as edge) → ⊥) → IsPutInLog old edge new → IsAdded old edge new

-- what adding edges one after another leaves
abbrev pub AreAdded : Edges → List Edge → Edges → Type 0
AreAdded old [] new = new ≡ old
AreAdded old (edge ∷ rest) new = (now : Edges) × IsAdded old edge now × AreAdded now rest new

-- the edge is of this hart, to one of the machine's, and its step is not before the start
pub record IsOfHart (start : List ℕ) (hart : ℕ) (e : Edge) : Type 0 where
  pub own : e.hart ≡ hart
  pub other : e.other < length start
  pub from_start : count_at start hart ≤ e.at

-- the edge says more than the start does
abbrev pub IsLater : List ℕ → Edge → Type 0
IsLater start e = count_at start e.other < e.after

pub record IsLog (start : List ℕ) (rows : List (List Edge)) : Type 0 where
  pub harts : length start ≤ HART_LIMIT
  pub many : length rows ≡ HART_ROW
  pub own : (hart : ℕ) → All (IsOfHart start hart) (slice_index_or rows hart [])
  pub later : (hart : ℕ) → All (IsLater start) (slice_index_or rows hart [])

-- The second log says of the steps before these counts what the first says, and no more; and all that the first says is said.
pub record AddsLater (before : Edges) (settled : ℕ → ℕ) (after : Edges) : Type 0 where
  pub start : after.start ≡ before.start
  pub rows : (hart : ℕ) → SayOn (row_of before hart) (settled hart) (row_of after hart)
