-- Families of terms: the frames that each term has, and stores that have no others.
use Rattle.std.specs.Prelude.{◌≡◌, ◌≢◌, ◌⊎◌, ℕ, List, [], ◌∷◌, slice_get, Option, Some, None}
use Rattle.ft_types.specs.Counts.{count_at}
use Rattle.fragment_codec.specs.declared.types.Key.{Key}
use Rattle.fragment_codec.specs.declared.frame.Frame.{Frame}
use Rattle.fragment_codec.specs.declared.frame.Frame.TheVariants.{Log, Opening}
use Rattle.fragment_codec.specs.Rules.{FragmentParts, OpeningParts}
use Rattle.log_join.specs.Cells.{Cell, Absent, One, Clash}
use Rattle.log_join.specs.Stores.{StoreView, opening_at, fragment_at}

-- a term that was granted: its opening, the pieces of each hart by place, and what tells of the term, as a book or a history
pub record Past (Told : Type 0) : Type 0 where
  pub opening : OpeningParts
  pub pieces : ℕ → List FragmentParts
  pub told : Told

-- the terms that were granted, by number
abbrev pub Family : Type 0 → Type 0
Family Told = ℕ → Option (Past Told)

-- no term was granted yet
abbrev pub no_terms : {Told : Type 0} → Family Told
no_terms term = None

-- ---- pieces

-- each piece begins where the one before it ends, and the first one at this count
abbrev pub NoGap : ℕ → List FragmentParts → Type 0
NoGap from [] = Unit {0}
NoGap from (piece ∷ pieces) = (piece.from ≡ from) × NoGap piece.to pieces

-- where they end
abbrev pub end_of : ℕ → List FragmentParts → ℕ
end_of from [] = from
end_of from (piece ∷ pieces) = end_of piece.to pieces

-- each hart's pieces lie without a gap from the opening's base, and each tells truly of the hart
pub record HasPieces {Told : Type 0} (tells : Told → ℕ → FragmentParts → Type 0) (p : Past Told) : Type 0 where
  pub no_gap : (hart : ℕ) → NoGap (count_at p.opening.base hart) (p.pieces hart)
  pub tell : (hart place : ℕ) (piece : FragmentParts) → slice_get (p.pieces hart) place ≡ Some piece → tells p.told hart piece

-- ---- frames

-- the one content, where there is one
abbrev pub only : {X : Type 0} → Option X → Cell X
only None = Absent
only (Some x) = One x

abbrev pub opening_of : {Told : Type 0} → Option (Past Told) → Cell OpeningParts
opening_of None = Absent
opening_of (Some p) = One p.opening

abbrev pub piece_of : {Told : Type 0} → Option (Past Told) → ℕ → ℕ → Cell FragmentParts
piece_of None hart place = Absent
piece_of (Some p) hart place = only (slice_get (p.pieces hart) place)

-- what the family has at a key: one content, or nothing
abbrev pub opening_in : {Told : Type 0} → Family Told → ℕ → Cell OpeningParts
opening_in terms term = opening_of (terms term)

abbrev pub fragment_in : {Told : Type 0} → Family Told → Key → Cell FragmentParts
fragment_in terms key = piece_of (terms key.term) key.hart key.place

-- the frame is the family's at its key
abbrev pub OfFamily : {Told : Type 0} → Family Told → Frame → Type 0
OfFamily terms (Opening o) = opening_in terms o.term ≡ One o
OfFamily terms (Log piece) = fragment_in terms piece.key ≡ One piece

-- each cell of the store is nothing, or what the family has there
pub record HonestStore {Told : Type 0} (terms : Family Told) (store : StoreView) : Type 0 where
  pub openings : (term : ℕ) → (opening_at store term ≡ Absent) ⊎ (opening_at store term ≡ opening_in terms term)
  pub fragments : (key : Key) → (fragment_at store key ≡ Absent) ⊎ (fragment_at store key ≡ fragment_in terms key)

-- ---- more and less

-- the second store has what the first one has
pub record Below (s r : StoreView) : Type 0 where
  pub openings : (term : ℕ) (o : OpeningParts) → opening_at s term ≡ One o → opening_at r term ≡ One o
  pub fragments : (key : Key) (piece : FragmentParts) → fragment_at s key ≡ One piece → fragment_at r key ≡ One piece

-- the second family has each frame that the first one has
pub record GrowsTo {Told : Type 0} (terms more : Family Told) : Type 0 where
  pub openings : (term : ℕ) (o : OpeningParts) → opening_in terms term ≡ One o → opening_in more term ≡ One o
  pub fragments : (key : Key) (piece : FragmentParts) → fragment_in terms key ≡ One piece → fragment_in more key ≡ One piece

-- nothing of the store clashes
pub record HasNoClash (store : StoreView) : Type 0 where
  pub openings : (term : ℕ) → opening_at store term ≢ Clash
  pub fragments : (key : Key) → fragment_at store key ≢ Clash
