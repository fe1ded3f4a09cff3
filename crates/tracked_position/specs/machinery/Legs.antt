-- The term that comes next in a chain: private words.
use Rattle.std.specs.Prelude.{ℕ, ◌≡◌, List, Option, Some, None}
use Rattle.fragment_codec.specs.Rules.{OpeningParts}
use Rattle.log_join.specs.Cells.{One}
use Rattle.log_join.specs.Stores.{StoreView, opening_at}
use Rattle.closed_cut.specs.Position.{InChain}

-- the opening of the term that comes after this one in the chain of the top
pub record IsChild (store : StoreView) (top term : ℕ) (o : OpeningParts) : Type 0 where
  pub opens : opening_at store o.term ≡ One o
  pub parent : o.parent ≡ term
  pub in_chain : InChain store o.term top

-- its base, where there is one
abbrev pub IsNext : StoreView → ℕ → ℕ → Option (List ℕ) → Type 0
IsNext store top term None = (o : OpeningParts) → IsChild store top term o → ⊥
IsNext store top term (Some base) = (o : OpeningParts) × IsChild store top term o × (o.base ≡ base)
