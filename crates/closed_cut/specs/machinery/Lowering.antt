-- Counts that edges lower: private words.
use Rattle.std.specs.Prelude.{◌≡◌, ℕ, ◌<◌, List, All, map, length}
use Rattle.ft_types.specs.Counts.{count_at}
use Rattle.interleaving.specs.Lists as theory
use Rattle.interleaving.specs.Log.{IsClosed}
use Rattle.edge_log.specs.declared.Edge.{Edge}
use Rattle.edge_log.specs.EdgeLog.{edge_as}

-- the edge is between harts of a machine that has so many
pub record IsOf (harts : ℕ) (e : Edge) : Type 0 where
  pub hart : e.hart < harts
  pub other : e.other < harts

abbrev pub AreOf : ℕ → List Edge → Type 0
AreOf harts edges = All (IsOf harts) edges

-- the counts were lowered, and no closed cut below them was lost
pub record IsLoweredTo (edges : List Edge) (old new : List ℕ) : Type 0 where
  pub harts : length new ≡ length old
  pub below : theory.IsWithin (count_at new) (count_at old)
  pub keeps : (cut : ℕ → ℕ) → IsClosed (map edge_as edges) cut → theory.IsWithin cut (count_at old) →
      theory.IsWithin cut (count_at new)
