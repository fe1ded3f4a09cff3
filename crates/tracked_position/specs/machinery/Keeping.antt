-- What is kept of a store whose position is kept up, and what a frame does to it.
use Rattle.std.specs.Prelude.{◌≡◌, ◌≢◌, ◌≤◌, ◌⊎◌, true, List, length, slice_index_or, Result, Ok, IfOk, OnErr}
use Rattle.ft_types.specs.Counts.{count_at}
use Rattle.ft_types.specs.declared.errors.Memory.{Memory}
use Rattle.fragment_codec.specs.Rules.{OpeningParts, FragmentParts}
use Rattle.fragment_codec.specs.declared.frame.Frame.{Frame}
use Rattle.fragment_codec.specs.declared.types.Key.{Key}
use Rattle.fragment_codec.specs.declared.frame.Frame.TheVariants.{Log, Opening}
use Rattle.log_join.specs.declared.answers.Put.{Put}
use Rattle.log_join.specs.declared.answers.Put.TheVariants.{New, Same, Clash as Clashes, OtherGuest}
use Rattle.log_join.specs.Cells.{Absent, One, Clash}
use Rattle.log_join.specs.Stores.{StoreView, opening_at, fragment_at, IsStore, IsJoin, alone}
use Rattle.log_join.specs.Answers.{answer_to}
use Rattle.closed_cut.specs.Position.{base_of, IsPosition}
use Rattle.ft_types.specs.declared.position.Position.{Position}
use Rattle.tracked_position.specs.declared.beyond.Beyond.{Beyond}
use Rattle.tracked_position.specs.declared.walk.Cursor.{Cursor}
use Rattle.tracked_position.specs.machinery.Walks.{AreOver}

-- the position is the store's, and the cursors stand on the walks of its term
pub record IsTracked (store : StoreView) (p : Position) (cursors : List Cursor) : Type 0 where
  pub rules : IsStore store
  pub position : IsPosition store p
  pub harts : length p.counts ≡ store.guest.harts
  pub over : (o : OpeningParts) → opening_at store p.term ≡ One o → AreOver store p.term (base_of o) (count_at p.counts) cursors

-- nothing came of the term's harts at these places and behind them, where they are known
abbrev pub AreBeyond : StoreView → Beyond → Type 0
AreBeyond store b = b.known ≡ true → (key : Key) → key.term ≡ b.term → slice_index_or b.places key.hart 0 ≤ key.place → fragment_at store key ≡ Absent

-- elsewhere than at the key there is what there was
abbrev pub IsSameBeside : StoreView → Key → StoreView → Type 0
IsSameBeside old key new = (other : Key) → (other ≡ key → ⊥) → fragment_at new other ≡ fragment_at old other

-- unequal contents came at the frame's key
abbrev pub IsClashAt : StoreView → Frame → Type 0
IsClashAt store (Opening o) = opening_at store o.term ≡ Clash
IsClashAt store (Log f) = fragment_at store f.key ≡ Clash

-- one content came at the frame's key
abbrev pub IsOneAt : StoreView → Frame → Type 0
IsOneAt store (Opening o) = (there : OpeningParts) × (opening_at store o.term ≡ One there)
IsOneAt store (Log f) = (there : FragmentParts) × (fragment_at store f.key ≡ One there)

-- the store would change with the frame: nothing came at its key yet, or one other content, which then clashes
abbrev pub MayGrow : StoreView → Frame → Type 0
MayGrow store frame = (answer_to store frame ≡ New) ⊎ ((answer_to store frame ≡ Clashes) × IsOneAt store frame)

-- a frame came
pub record Takes (old : StoreView) (frame : Frame) (result : Result Put Memory) (new : StoreView) : Type 0 where
  pub answer : IfOk result (λ p. p ≡ answer_to old frame)
  pub joined : IfOk result (λ p. p ≢ OtherGuest → IsJoin old (alone frame) new)
  pub same : result ≡ Ok Same → new ≡ old
  pub other_guest : result ≡ Ok OtherGuest → new ≡ old
  pub err : OnErr result (new ≡ old)
