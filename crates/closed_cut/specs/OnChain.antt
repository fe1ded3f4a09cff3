-- A store's position, over the list of its chain's terms: the greatest cut of each earlier term is the base of the next; the position's term is the last one,
-- or its greatest cut falls short of the next base.
use Rattle.std.specs.Prelude.{ℕ, ◌≡◌, ◌⊎◌, List, [], ◌∷◌, Some, None}
use Rattle.ft_types.specs.Counts.{count_at}
use Rattle.fragment_codec.specs.Rules.{OpeningParts}
use Rattle.log_join.specs.Cells.{One}
use Rattle.log_join.specs.Stores.{StoreView, IsStore, opening_at}
use Rattle.closed_cut.specs.Chain.{IsTop, IsChain}
use Rattle.closed_cut.specs.Position.{Avail, IsReached, IsPosition, base_of}
use Rattle.ft_types.specs.declared.position.Position.{Position}

-- the position is the greatest cut of the last term
pub record IsInLast (store : StoreView) (p : Position) (last : ℕ) : Type 0 where
  pub term : last ≡ p.term
  pub opening : OpeningParts
  pub opens : opening_at store last ≡ One opening
  pub reached : IsReached store last (base_of opening) None (count_at p.counts)

-- two terms that follow one another, with their openings
pub record Follow (store : StoreView) (term next : ℕ) : Type 0 where
  pub opening : OpeningParts
  pub opens : opening_at store term ≡ One opening
  pub next_opening : OpeningParts
  pub next_opens : opening_at store next ≡ One next_opening

-- the position is the greatest cut of a term before the base of the next, and falls short of that
pub record FallsShort (store : StoreView) (p : Position) (term next : ℕ) : Type 0 where
  pub follow : Follow store term next
  pub here : term ≡ p.term
  pub reached : IsReached store term (base_of follow.opening) (Some (base_of follow.next_opening)) (count_at p.counts)
  pub short : ((hart : ℕ) → count_at p.counts hart ≡ base_of follow.next_opening hart) → ⊥

-- the greatest cut of a term is the base of the next
pub record ReachesNext (store : StoreView) (term next : ℕ) : Type 0 where
  pub follow : Follow store term next
  pub reached : IsReached store term (base_of follow.opening) (Some (base_of follow.next_opening)) (base_of follow.next_opening)

-- the position is where the greatest cuts of these terms, one after the other, lead to
abbrev pub StopsAlong : StoreView → Position → List ℕ → Type 0
StopsAlong store p [] = ⊥
StopsAlong store p (term ∷ []) = IsInLast store p term
StopsAlong store p (term ∷ next ∷ rest) = FallsShort store p term next ⊎ (ReachesNext store term next × StopsAlong store p (next ∷ rest))

-- term 0 at counts 0 where the chain has no term
abbrev pub IsAt : StoreView → Position → List ℕ → Type 0
IsAt store p [] = (p.term ≡ 0) × ((hart : ℕ) → count_at p.counts hart ≡ 0) × (p.top ≡ 0)
IsAt store p (term ∷ rest) = IsTop store p.top × StopsAlong store p (term ∷ rest)

pub record IsOnChain (store : StoreView) (p : Position) : Type 0 where
  pub terms : List ℕ
  pub chain : IsChain store terms
  pub at : IsAt store p terms

-- the two ways to say what a position is are one
abbrev pub PositionsOnChains : Type 0
PositionsOnChains = (store : StoreView) (p : Position) → IsStore store → (IsPosition store p → IsOnChain store p) × (IsOnChain store p → IsPosition store p)

-- each hart's pieces of a term go on without a gap to one place, and to one count
pub record IsOneWalk (store : StoreView) (term : ℕ) (base : ℕ → ℕ) : Type 0 where
  pub there : Avail store term base
  pub one : (a b : Avail store term base) (hart : ℕ) → (a.places hart ≡ b.places hart) × (a.end hart ≡ b.end hart)

abbrev pub OneWalk : Type 0
OneWalk = (store : StoreView) (term : ℕ) (base : ℕ → ℕ) → IsStore store → IsOneWalk store term base
