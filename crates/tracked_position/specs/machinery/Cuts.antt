-- The cuts of a term that a store reaches, by the walks over its pieces: private words.
use Rattle.std.specs.Prelude.{ℕ, ◌≡◌, ◌<◌, ◌≤◌, List, Contains, Option, MatchOption}
use Rattle.std.specs.List.{filter_map}
use Rattle.edge_log.specs.declared.Edge.{Edge}
use Rattle.fragment_codec.specs.Rules.{FragmentParts}
use Rattle.fragment_codec.specs.Facts.{edge_in}
use Rattle.log_join.specs.Cells.{Cell, One}
use Rattle.log_join.specs.Stores.{StoreView}
use Rattle.closed_cut.specs.Position.{pieces_of, Goes}

-- the edges of a piece
abbrev pub edges_in : FragmentParts → List Edge
edges_in piece = filter_map edge_in piece.records

-- the counts have the steps that the edge asks for
abbrev pub Meets : (ℕ → ℕ) → Edge → Type 0
Meets cut e = e.after ≤ cut e.other

-- the walk from the start goes over this piece
pub record GoesOver (pieces : ℕ → Cell FragmentParts) (start place : ℕ) (piece : FragmentParts) : Type 0 where
  pub goes : Goes pieces start place piece.from
  pub one : pieces place ≡ One piece

-- the walk from the start comes to this count, at the least
pub record ComesTo (pieces : ℕ → Cell FragmentParts) (start count : ℕ) : Type 0 where
  pub place : ℕ
  pub end : ℕ
  pub goes : Goes pieces start place end
  pub far : count ≤ end

-- each hart's walk comes to its count, at the least
abbrev pub ComeTo : StoreView → ℕ → (ℕ → ℕ) → (ℕ → ℕ) → Type 0
ComeTo store term base cut = (hart : ℕ) → ComesTo (pieces_of store term hart) (base hart) (cut hart)

-- the counts are at most these, where there are such
abbrev pub IsLimited : Option (ℕ → ℕ) → (ℕ → ℕ) → Type 0
IsLimited next cut = MatchOption next (Unit {0}) (λ limit. (hart : ℕ) → cut hart ≤ limit hart)

-- a cut between the base and where the walks come to, at most the next term's base, closed for the edges on the walks
pub record IsCutOf (store : StoreView) (term : ℕ) (base : ℕ → ℕ) (next : Option (ℕ → ℕ)) (cut : ℕ → ℕ) : Type 0 where
  pub above : (hart : ℕ) → base hart ≤ cut hart
  pub within : ComeTo store term base cut
  pub before_next : IsLimited next cut
  pub closed : (hart place : ℕ) (piece : FragmentParts) (e : Edge) → GoesOver (pieces_of store term hart) (base hart) place piece →
      Contains (edges_in piece) e → e.at < cut e.hart → Meets cut e

-- no such cut is above these counts
abbrev pub IsBound : StoreView → ℕ → (ℕ → ℕ) → Option (ℕ → ℕ) → (ℕ → ℕ) → Type 0
IsBound store term base next cut = (other : ℕ → ℕ) → IsCutOf store term base next other → (hart : ℕ) → other hart ≤ cut hart

-- the greatest of them
pub record IsGreatestCut (store : StoreView) (term : ℕ) (base : ℕ → ℕ) (next : Option (ℕ → ℕ)) (cut : ℕ → ℕ) : Type 0 where
  pub cut_of : IsCutOf store term base next cut
  pub bound : IsBound store term base next cut

-- counts to which the walks come, and above which no cut is
pub record IsHigh (store : StoreView) (term : ℕ) (base : ℕ → ℕ) (next : Option (ℕ → ℕ)) (high : ℕ → ℕ) : Type 0 where
  pub come : ComeTo store term base high
  pub limited : IsLimited next high
  pub bound : IsBound store term base next high
