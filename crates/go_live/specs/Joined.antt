-- Several stores, joined.
use Rattle.std.specs.Prelude.{◌≡◌, List, [], ◌∷◌}
use Rattle.ft_types.specs.Guests.{GuestParts}
use Rattle.log_join.specs.Stores.{StoreView, IsJoin, nothing}

-- the stores were joined to the first one, in turn
abbrev pub AreJoinedTo : StoreView → List StoreView → StoreView → Type 0
AreJoinedTo old [] new = new ≡ old
AreJoinedTo old (store ∷ stores) new = (next : StoreView) × IsJoin old store next × AreJoinedTo next stores new

-- the join of these stores of the guest
abbrev pub AreJoined : GuestParts → List StoreView → StoreView → Type 0
AreJoined guest stores joined = AreJoinedTo (nothing guest) stores joined
