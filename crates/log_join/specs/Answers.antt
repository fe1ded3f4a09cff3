-- What the calls of a store answer.
use Rattle.std.specs.Prelude.{◌≡◌, ◌≢◌, Bool, Result, Ok, IfOk, OnErr, if◌then◌else◌}
use Rattle.ft_types.specs.declared.errors.Memory.{Memory}
use Rattle.fragment_codec.specs.declared.frame.Frame.{Frame}
use Rattle.fragment_codec.specs.declared.frame.Frame.TheVariants.{Log, Opening}
use Rattle.fragment_codec.specs.Rules.{FragmentParts, OpeningParts}
use Rattle.log_join.specs.declared.answers.Put.{Put}
use Rattle.log_join.specs.declared.answers.Put.TheVariants.{New, Same, Clash as Clashes, OtherGuest}
use Rattle.log_join.specs.declared.answers.Found.{Found}
use Rattle.log_join.specs.declared.answers.Found.TheVariants.{Absent as FindsNone, One as FindsOne, Clash as FindsClash}
use Rattle.log_join.specs.Cells.{Cell, Absent, One, Clash}
use Rattle.frame_content.specs.Tests.{same_guest, same_opening, same_fragment}
use Rattle.log_join.specs.Stores.{StoreView, opening_at, fragment_at, IsJoin, alone}

-- the answer to a content that comes to a cell
abbrev pub answer : {X : Type 0} → (X → X → Bool) → Cell X → X → Put
answer same Absent x = New
answer same (One y) x = if same y x then Same else Clashes
answer same Clash x = Clashes

-- the answer to a frame: its guest is looked at first
abbrev pub answer_to : StoreView → Frame → Put
answer_to s (Opening o) = if same_guest o.guest s.guest then answer same_opening (opening_at s o.term) o else OtherGuest
answer_to s (Log f) = if same_guest f.guest s.guest then answer same_fragment (fragment_at s f.key) f else OtherGuest

-- a frame was put into a store
pub record Puts (old : StoreView) (frame : Frame) (result : Result Put Memory) (new : StoreView) : Type 0 where
  pub answer : IfOk result (λ p. p ≡ answer_to old frame)
  pub joined : IfOk result (λ p. p ≢ OtherGuest → IsJoin old (alone frame) new)
  pub same : result ≡ Ok Same → new ≡ old
  pub other_guest : result ≡ Ok OtherGuest → new ≡ old
  pub memory : OnErr result (answer_to old frame ≡ New)
  pub err : OnErr result (new ≡ old)

-- the answer tells what there is of an opening
abbrev pub TellsOpening : Found → Cell OpeningParts → Type 0
TellsOpening FindsNone cell = cell ≡ Absent
TellsOpening (FindsOne frame) cell = (o : OpeningParts) × (frame.now ≡ Opening o) × (cell ≡ One o)
TellsOpening FindsClash cell = cell ≡ Clash

-- the answer tells what there is of a fragment
abbrev pub TellsFragment : Found → Cell FragmentParts → Type 0
TellsFragment FindsNone cell = cell ≡ Absent
TellsFragment (FindsOne frame) cell = (f : FragmentParts) × (frame.now ≡ Log f) × (cell ≡ One f)
TellsFragment FindsClash cell = cell ≡ Clash
