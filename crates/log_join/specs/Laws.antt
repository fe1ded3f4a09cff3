-- The laws of joins, over all stores.
use Rattle.std.specs.Prelude.{◌≡◌, Bool, ◌↔◌, IsTrue, List, Contains}
use Rattle.ft_types.specs.Guests.{GuestParts}
use Rattle.fragment_codec.specs.declared.frame.Frame.{Frame}
use Rattle.log_join.specs.Cells.{Cell, Absent, join_cell}
use Rattle.log_join.specs.Stores.{StoreView, IsStore, IsJoin, nothing as nothing_came, guest_of}
use Rattle.fragment_codec.specs.Streams.{IsFrame}
use Rattle.log_join.specs.Coming.{IsJoinOf, Gathers, SameFrames, HasOnly}

-- ---- cells

-- the test decides whether two contents are equal
pub record Tells {X : Type 0} (same : X → X → Bool) : Type 0 where
  pub exact : (x y : X) → IsTrue (same x y) ↔ (x ≡ y)

-- the laws of a join
pub record IsSemilattice {X : Type 0} (nothing : X) (join : X → X → X) : Type 0 where
  pub associative : (a b c : X) → join (join a b) c ≡ join a (join b c)
  pub commutative : (a b : X) → join a b ≡ join b a
  pub idempotent : (a : X) → join a a ≡ a
  pub unit : (a : X) → join nothing a ≡ a

abbrev pub CellsJoin : {X : Type 0} → (X → X → Bool) → Type 0
CellsJoin {X} same = IsSemilattice {X = Cell X} Absent (join_cell same)

-- ---- stores

-- any two stores have a join, and only one
pub record OneJoin (a b : StoreView) : Type 0 where
  pub there : (c : StoreView) × IsJoin a b c
  pub one : (c d : StoreView) → IsJoin a b c → IsJoin a b d → c ≡ d

abbrev pub Associates : Type 0
Associates = (a b c ab bc left right : StoreView) → IsJoin a b ab → IsJoin ab c left → IsJoin b c bc → IsJoin a bc right → left ≡ right

-- of two stores of one guest
abbrev pub Commutes : Type 0
Commutes = (a b ab ba : StoreView) → a.guest ≡ b.guest → IsJoin a b ab → IsJoin b a ba → ab ≡ ba

abbrev pub Idempotent : Type 0
Idempotent = (a joined : StoreView) → IsJoin a a joined → joined ≡ a

abbrev pub HasUnit : Type 0
HasUnit = (a joined : StoreView) (guest : GuestParts) → IsJoin a (nothing_came guest) joined → joined ≡ a

-- ---- order and repetition

-- whoever took the same frames, alone or in stores, in whatever order and however often, holds one store
abbrev pub OrderMakesNoDifference : Type 0
OrderMakesNoDifference = (guest : GuestParts) (first second : List Frame) (a b : StoreView) → Gathers guest first a → Gathers guest second b →
    SameFrames first second → a ≡ b

-- frames that came one after the other were gathered
abbrev pub ComeGathers : Type 0
ComeGathers = (guest : GuestParts) (frames : List Frame) (store : StoreView) → IsJoinOf guest frames store → Gathers guest frames store

-- what stands in a store was gathered
abbrev pub OnlyGathered : Type 0
OnlyGathered = (guest : GuestParts) (frames : List Frame) (store : StoreView) → Gathers guest frames store → HasOnly frames store

-- a store that gathered right frames of its guest keeps what every store keeps
abbrev pub GatheredIsStore : Type 0
GatheredIsStore = (guest : GuestParts) (frames : List Frame) (store : StoreView) → Gathers guest frames store →
    ((frame : Frame) → Contains frames frame → IsFrame frame) → ((frame : Frame) → Contains frames frame → guest_of frame ≡ guest) → IsStore store
