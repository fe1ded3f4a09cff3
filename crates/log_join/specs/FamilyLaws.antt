-- What holds of stores of one family's frames.
use Rattle.std.specs.Prelude.{List, Contains}
use Rattle.ft_types.specs.Guests.{GuestParts}
use Rattle.fragment_codec.specs.declared.frame.Frame.{Frame}
use Rattle.log_join.specs.Stores.{StoreView, IsJoin}
use Rattle.log_join.specs.Coming.{Gathers}
use Rattle.log_join.specs.Families.{Family, OfFamily, HonestStore, Below, GrowsTo, HasNoClash}

-- the join of two honest stores is honest, and both lie below it
pub record IsHonestJoin {Told : Type 0} (terms : Family Told) (a b c : StoreView) : Type 0 where
  pub honest : HonestStore terms c
  pub left : Below a c
  pub right : Below b c

abbrev pub HonestJoins : Type 0 → Type 0
HonestJoins Told = (terms : Family Told) (a b c : StoreView) → HonestStore terms a → HonestStore terms b → IsJoin a b c → IsHonestJoin terms a b c

-- it has no clash
abbrev pub HonestAgree : Type 0 → Type 0
HonestAgree Told = (terms : Family Told) (store : StoreView) → HonestStore terms store → HasNoClash store

-- a store that gathered the family's frames is honest
abbrev pub HonestGather : Type 0 → Type 0
HonestGather Told = (terms : Family Told) (guest : GuestParts) (frames : List Frame) (store : StoreView) → Gathers guest frames store →
    ((frame : Frame) → Contains frames frame → OfFamily terms frame) → HonestStore terms store

-- and so it stays when the family grows
abbrev pub HonestStay : Type 0 → Type 0
HonestStay Told = (terms more : Family Told) (store : StoreView) → GrowsTo terms more → HonestStore terms store → HonestStore more store
