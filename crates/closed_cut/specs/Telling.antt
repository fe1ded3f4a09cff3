-- What a piece tells of a log.
use Rattle.std.specs.Prelude.{ℕ, ◌≡◌, ◌↔◌, ◌<◌, ◌≤◌, List, Contains}
use Rattle.interleaving.specs.Log.{Edge}
use Rattle.fragment_codec.specs.Rules.{FragmentParts}
use Rattle.closed_cut.specs.Position.{edges_of}

-- the piece goes no further than the hart's log, which ends at this count, and has exactly its edges in its range
pub record TellsEdges (edges : List Edge) (last : ℕ) (hart : ℕ) (piece : FragmentParts) : Type 0 where
  pub end : piece.to ≤ last
  pub exact : (e : Edge) → Contains (edges_of piece) e ↔ (Contains edges e × (e.hart ≡ hart) × (piece.from ≤ e.step) × (e.step < piece.to))
