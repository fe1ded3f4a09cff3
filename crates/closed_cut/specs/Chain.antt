-- The chain of a store's terms.
use Rattle.std.specs.Prelude.{◌≡◌, ℕ, ◌≤◌, List, [], ◌∷◌}
use Rattle.ft_types.specs.Counts.{IsWithin}
use Rattle.fragment_codec.specs.Rules.{OpeningParts}
use Rattle.log_join.specs.Cells.{One}
use Rattle.log_join.specs.Stores.{StoreView, opening_at}

-- the opening is One, and so are those of its ancestors, up to one with parent 0; no base is below its parent's
pub data Sound (store : StoreView) : ℕ → Type 0 where
  Root : {term : ℕ} (o : OpeningParts) → opening_at store term ≡ One o → o.parent ≡ 0 → Sound store term
  Child : {term : ℕ} (o p : OpeningParts) → opening_at store term ≡ One o → Sound store o.parent →
      opening_at store o.parent ≡ One p → IsWithin p.base o.base → Sound store term

-- the greatest sound term
pub record IsTop (store : StoreView) (top : ℕ) : Type 0 where
  pub sound : Sound store top
  pub greatest : (other : ℕ) → Sound store other → other ≤ top

-- the term's opening goes on from the parent, where 0 stands for boot
pub record IsParent (store : StoreView) (parent term : ℕ) : Type 0 where
  pub opening : OpeningParts
  pub opens : opening_at store term ≡ One opening
  pub is : opening.parent ≡ parent

-- the terms lead on from this one to the top, each the parent of the next
abbrev pub LeadsTo : StoreView → ℕ → List ℕ → ℕ → Type 0
LeadsTo store term [] top = term ≡ top
LeadsTo store term (next ∷ rest) top = IsParent store term next × LeadsTo store next rest top

-- no term where none is sound; else from one with parent 0 to the top, each the parent of the next
pub data IsChain (store : StoreView) (terms : List ℕ) : Type 0 where
  NoTerm : ((term : ℕ) → Sound store term → ⊥) → terms ≡ [] → IsChain store terms
  To : (top : ℕ) → IsTop store top → LeadsTo store 0 terms top → IsChain store terms
