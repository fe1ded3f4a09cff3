-- What came to a store: frames that were put, and stores that were joined.
use Rattle.std.specs.Prelude.{ℕ, ◌≡◌, List, [], ◌∷◌, ◌++◌, ◌↔◌, Contains}
use Rattle.ft_types.specs.Guests.{GuestParts}
use Rattle.fragment_codec.specs.declared.frame.Frame.{Frame}
use Rattle.fragment_codec.specs.declared.frame.Frame.TheVariants.{Log, Opening}
use Rattle.fragment_codec.specs.declared.types.Key.{Key}
use Rattle.fragment_codec.specs.Rules.{FragmentParts, OpeningParts}
use Rattle.log_join.specs.Cells.{One}
use Rattle.log_join.specs.Stores.{StoreView, opening_at, fragment_at, IsJoin, nothing, alone}

-- the frames came to the store, one after the other
abbrev pub Come : StoreView → List Frame → StoreView → Type 0
Come old [] new = new ≡ old
Come old (frame ∷ frames) new = (next : StoreView) × IsJoin old (alone frame) next × Come next frames new

-- the join of these frames of the guest
abbrev pub IsJoinOf : GuestParts → List Frame → StoreView → Type 0
IsJoinOf guest frames store = Come (nothing guest) frames store

-- these frames, and no others, were put into the store, or into stores that were joined to it, and so on
pub data Gathers (guest : GuestParts) : List Frame → StoreView → Type 0 where
  Nothing : {frames : List Frame} {store : StoreView} → frames ≡ [] → store ≡ nothing guest → Gathers guest frames store
  Put : {frames : List Frame} {store : StoreView} (earlier : List Frame) (frame : Frame) (old : StoreView) → Gathers guest earlier old →
      IsJoin old (alone frame) store →
      frames ≡ earlier ++ frame ∷ [] → Gathers guest frames store
  Join : {frames : List Frame} {store : StoreView} (first second : List Frame) (a b : StoreView) → Gathers guest first a → Gathers guest second b →
      IsJoin a b store →
      frames ≡ first ++ second → Gathers guest frames store

-- each frame of one is a frame of the other
abbrev pub SameFrames : List Frame → List Frame → Type 0
SameFrames first second = (frame : Frame) → Contains first frame ↔ Contains second frame

-- each content of the store is that of one of these frames, at its key
pub record HasOnly (frames : List Frame) (store : StoreView) : Type 0 where
  pub openings : (term : ℕ) (o : OpeningParts) → opening_at store term ≡ One o → Contains frames (Opening o) × (o.term ≡ term)
  pub fragments : (key : Key) (f : FragmentParts) → fragment_at store key ≡ One f → Contains frames (Log f) × (f.key ≡ key)
