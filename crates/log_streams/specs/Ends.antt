-- Where the frames of a primary's whole log end.
use Rattle.std.specs.Prelude.{◌≡◌, ◌<◌, ◌+◌, ◌^◌, ℕ, List, Contains}
use Rattle.ft_types.specs.Counts.{count_at}
use Rattle.ft_types.specs.Guests.{GuestParts}
use Rattle.fragment_codec.specs.declared.frame.Frame.{Frame}
use Rattle.fragment_codec.specs.declared.frame.Frame.TheVariants.{Log}
use Rattle.fragment_codec.specs.Rules.{FragmentParts}
use Rattle.log_join.specs.Coming.{Gathers}
use Rattle.log_join.specs.Stores.{StoreView}
use Rattle.closed_cut.specs.Position.{IsPosition}
use Rattle.ft_types.specs.declared.position.Position.{Position}
use Rattle.hart_lease.specs.Runs.{counts_of}
use Rattle.page_book.specs.Books.{BookView}
use Rattle.book_modes.specs.Recordings.{RecordingView}

-- the position is the end of the book's run, in term 1
pub record IsEndOf (b : BookView RecordingView) (position : Position) : Type 0 where
  pub term : position.term ≡ 1
  pub top : position.top ≡ 1
  pub counts : (hart : ℕ) → count_at position.counts hart ≡ counts_of b.machine hart

-- no hart's pieces use up the places, which have 32 bits
abbrev pub LeavePlaces : List Frame → Type 0
LeavePlaces frames = (piece : FragmentParts) → Contains frames (Log piece) → piece.key.place + 1 < 2 ^ 32

-- whoever gathered the frames, in whatever order and however often, has its position at the book's settled counts
abbrev pub ReachItsEnd : GuestParts → BookView RecordingView → List Frame → Type 0
ReachItsEnd guest b frames =
    LeavePlaces frames → (store : StoreView) (position : Position) → Gathers guest frames store → IsPosition store position → IsEndOf b position
