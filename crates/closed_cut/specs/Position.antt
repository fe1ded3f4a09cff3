-- Where the log of a store ends.
use Rattle.std.specs.Prelude.{ℕ, zero, suc, ◌≡◌, ◌<◌, ◌≤◌, List, map, Contains, Option, Some, None, MatchOption}
use Rattle.std.specs.List.{filter_map}
use Rattle.ft_types.specs.Counts.{count_at}
use Rattle.interleaving.specs.Log.{Edge}
use Rattle.edge_log.specs.EdgeLog.{edge_as}
use Rattle.fragment_codec.specs.Rules.{FragmentParts, OpeningParts}
use Rattle.fragment_codec.specs.Facts.{edge_in}
use Rattle.log_join.specs.Cells.{Cell, One}
use Rattle.log_join.specs.Stores.{StoreView, opening_at, fragment_at}
use Rattle.closed_cut.specs.Chain.{Sound, IsTop}
use Rattle.ft_types.specs.declared.position.Position.{Position}

-- a hart's pieces of a term, by place
abbrev pub pieces_of : StoreView → ℕ → ℕ → ℕ → Cell FragmentParts
pieces_of store term hart place = fragment_at store (record { term = term; hart = hart; place = place })

-- the edges of a piece, in the theory's words
abbrev pub edges_of : FragmentParts → List Edge
edges_of piece = map edge_as (filter_map edge_in piece.records)

-- a walk over the hart's first `places` places comes to `end`: each is One and begins at the end so far
abbrev pub Goes : (ℕ → Cell FragmentParts) → ℕ → ℕ → ℕ → Type 0
Goes pieces start zero end = end ≡ start
Goes pieces start (suc place) end = (x : FragmentParts) × Goes pieces start place x.from × (pieces place ≡ One x) × (end ≡ x.to)

-- the ends of these walks, which go no further
pub record Avail (store : StoreView) (term : ℕ) (base : ℕ → ℕ) : Type 0 where
  pub places : ℕ → ℕ  -- of a hart
  pub end : ℕ → ℕ
  pub goes : (hart : ℕ) → Goes (pieces_of store term hart) (base hart) (places hart) (end hart)
  pub stops : (hart : ℕ) (piece : FragmentParts) → pieces_of store term hart (places hart) ≡ One piece →
      piece.from ≡ end hart → ⊥

-- a cut between base and avail, at most the next term's base, closed for the edges of what avail went over
pub record Fits (store : StoreView) (term : ℕ) (base : ℕ → ℕ) (next : Option (ℕ → ℕ)) (avail : Avail store term base)
    (cut : ℕ → ℕ) : Type 0 where
  pub above : (hart : ℕ) → base hart ≤ cut hart
  pub within : (hart : ℕ) → cut hart ≤ avail.end hart
  pub before_next : MatchOption next (Unit {0}) (λ limit. (hart : ℕ) → cut hart ≤ limit hart)
  pub closed : (hart place : ℕ) (piece : FragmentParts) (e : Edge) → place < avail.places hart →
      pieces_of store term hart place ≡ One piece → Contains (edges_of piece) e → e.step < cut e.hart →
      e.count ≤ cut e.other

-- the greatest of them
pub record IsReached (store : StoreView) (term : ℕ) (base : ℕ → ℕ) (next : Option (ℕ → ℕ)) (cut : ℕ → ℕ) : Type 0 where
  pub avail : Avail store term base
  pub fits : Fits store term base next avail cut
  pub greatest : (other : ℕ → ℕ) → Fits store term base next avail other → (hart : ℕ) → other hart ≤ cut hart

-- the base of an opening
abbrev pub base_of : OpeningParts → ℕ → ℕ
base_of o = count_at o.base

-- the term is in the chain of the top: it, its parent, and so on
pub data InChain (store : StoreView) (term : ℕ) : ℕ → Type 0 where
  Self : {top : ℕ} → top ≡ term → InChain store term top
  Up : {top : ℕ} (o : OpeningParts) → opening_at store top ≡ One o → InChain store term o.parent → InChain store term top

-- the walk along the chain of the top, once it has come to `now`, stops at the term and the cut: in the top, in a term
-- whose cut is not the next base, or further on
pub data Stops (store : StoreView) (top term : ℕ) (cut : ℕ → ℕ) : ℕ → Type 0 where
  Last : {now : ℕ} (o : OpeningParts) → opening_at store now ≡ One o → now ≡ top → now ≡ term →
      IsReached store now (base_of o) None cut → Stops store top term cut now
  Short : {now : ℕ} (o n : OpeningParts) (next : ℕ) → opening_at store now ≡ One o → opening_at store next ≡ One n →
      n.parent ≡ now → InChain store next top → now ≡ term → IsReached store now (base_of o) (Some (base_of n)) cut →
      (((hart : ℕ) → cut hart ≡ base_of n hart) → ⊥) → Stops store top term cut now
  On : {now : ℕ} (o n : OpeningParts) (next : ℕ) (all : ℕ → ℕ) → opening_at store now ≡ One o →
      opening_at store next ≡ One n → n.parent ≡ now → InChain store next top →
      IsReached store now (base_of o) (Some (base_of n)) all → ((hart : ℕ) → all hart ≡ base_of n hart) →
      Stops store top term cut next → Stops store top term cut now

-- the position, where there is a top: the walk begins at the chain's term with parent 0
pub record Walked (store : StoreView) (p : Position) : Type 0 where
  pub top : IsTop store p.top
  pub root : ℕ
  pub opening : OpeningParts
  pub opens : opening_at store root ≡ One opening
  pub first : opening.parent ≡ 0
  pub in_chain : InChain store root p.top
  pub stops : Stops store p.top p.term (count_at p.counts) root

-- term 0 at counts 0, without a top; else where the walk stops
pub data IsPosition (store : StoreView) (p : Position) : Type 0 where
  NoTop : ((term : ℕ) → Sound store term → ⊥) → p.term ≡ 0 → ((hart : ℕ) → count_at p.counts hart ≡ 0) → p.top ≡ 0 →
      IsPosition store p
  Top : Walked store p → IsPosition store p
