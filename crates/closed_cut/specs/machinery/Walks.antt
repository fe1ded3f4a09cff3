-- What a walk over a hart's pieces gathers: private words.
use Rattle.std.specs.Prelude.{◌≡◌, ℕ, zero, suc, ◌<◌, ◌↔◌, List, [], ◌++◌, Contains, length, Option, MatchOption}
use Rattle.std.specs.Option.{option_map}
use Rattle.ft_types.specs.Counts.{count_at}
use Rattle.interleaving.specs.Lists as theory
use Rattle.std.specs.List.{filter_map}
use Rattle.std.specs.List.Sorted.{IsNonDecreasing}
use Rattle.edge_log.specs.declared.Edge.{Edge}
use Rattle.fragment_codec.specs.Rules.{FragmentParts}
use Rattle.log_join.specs.Cells.{Cell, Absent, One, Clash}
use Rattle.log_join.specs.Stores.{StoreView}
use Rattle.closed_cut.specs.Chain.{Sound}
use Rattle.fragment_codec.specs.Facts.{edge_in}
use Rattle.closed_cut.specs.Position.{Goes}

abbrev pub cell_edges : Cell FragmentParts → List Edge
cell_edges Absent = []
cell_edges (One piece) = filter_map edge_in piece.records
cell_edges Clash = []

-- the edges of a hart's first places
abbrev pub hart_edges : (ℕ → Cell FragmentParts) → ℕ → List Edge
hart_edges pieces zero = []
hart_edges pieces (suc place) = hart_edges pieces place ++ cell_edges (pieces place)

-- the walk from the start goes no further than the end, and the edges of what it went over were added
pub record IsGathered (pieces : ℕ → Cell FragmentParts) (start : ℕ) (old : List Edge) (end : ℕ) (new : List Edge) : Type 0 where
  pub places : ℕ
  pub goes : Goes pieces start places end
  pub stops : (piece : FragmentParts) → pieces places ≡ One piece → piece.from ≡ end → ⊥
  pub edges : new ≡ old ++ hart_edges pieces places

-- the sound terms, rising
pub record AreSound (store : StoreView) (terms : List ℕ) : Type 0 where
  pub rising : IsNonDecreasing terms
  pub exact : (term : ℕ) → Contains terms term ↔ Sound store term

-- these are the sound terms below the term
abbrev pub ComesAfter : StoreView → List ℕ → ℕ → Type 0
ComesAfter store terms term = (other : ℕ) → Contains terms other ↔ ((other < term) × Sound store other)

-- the edges of the first harts' walks
abbrev pub all_edges : (ℕ → ℕ → Cell FragmentParts) → (ℕ → ℕ) → ℕ → List Edge
all_edges pieces places zero = []
all_edges pieces places (suc hart) = all_edges pieces places hart ++ hart_edges (pieces hart) (places hart)

-- what the limit leaves of the counts
pub record IsLimited (counts : List ℕ) (limit : Option (List ℕ)) (low : List ℕ) : Type 0 where
  pub harts : length low ≡ length counts
  pub exact : (cut : ℕ → ℕ) → theory.IsWithin cut (count_at low) ↔
      (theory.IsWithin cut (count_at counts) ×
      MatchOption (option_map count_at limit) (Unit {0}) (λ limit. theory.IsWithin cut limit))
