-- A store has a position, and only one.
use Rattle.std.specs.Prelude.{ℕ, ◌≡◌, List, length}
use Rattle.std.specs.List.{AllByRecursion}
use Rattle.ft_types.specs.Counts.{count_at, IsCount}
use Rattle.ft_types.specs.Guests.{GuestParts}
use Rattle.fragment_codec.specs.declared.frame.Frame.{Frame}
use Rattle.log_join.specs.Coming.{Gathers, SameFrames}
use Rattle.log_join.specs.Stores.{StoreView, IsStore}
use Rattle.closed_cut.specs.Position.{IsPosition}
use Rattle.ft_types.specs.declared.position.Position.{Position}

-- the same term, the same count of each hart, and the same last term
pub record IsSamePosition (p q : Position) : Type 0 where
  pub term : p.term ≡ q.term
  pub counts : (hart : ℕ) → count_at p.counts hart ≡ count_at q.counts hart
  pub top : p.top ≡ q.top

-- a store has a position, whose counts are a row of its guest
abbrev pub HasPosition : Type 0
HasPosition = (store : StoreView) → IsStore store →
    (p : Position) × IsPosition store p × (length p.counts ≡ store.guest.harts) × AllByRecursion IsCount p.counts

-- and only one
abbrev pub OnePosition : Type 0
OnePosition = (store : StoreView) → IsStore store → (p q : Position) → IsPosition store p → IsPosition store q → IsSamePosition p q

-- whoever took or joined the same frames, in whatever order and however often, has one position
abbrev pub OrderKeepsThePosition : Type 0
OrderKeepsThePosition = (guest : GuestParts) (first second : List Frame) (a b : StoreView) → Gathers guest first a → Gathers guest second b →
    SameFrames first second → IsStore a → (p q : Position) → IsPosition a p → IsPosition b q → IsSamePosition p q
