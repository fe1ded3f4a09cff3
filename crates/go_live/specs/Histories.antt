-- Primaries that go live in a history, and the history that they make.
use Rattle.std.specs.Prelude.{ℕ, ◌≡◌, List, All, Some, None}
use Rattle.ft_types.specs.Counts.{count_at}
use Rattle.interleaving.specs.Lists.{put}
use Rattle.interleaving.specs.Stored.{view}
use Rattle.rv32_hart.specs.Hardware.{hardware}
use Rattle.fragment_codec.specs.Rules.{OpeningParts}
use Rattle.log_join.specs.Stores.{StoreView}
use Rattle.log_join.specs.Families.{HonestStore, no_terms}
use Rattle.guest_image.specs.Image.{ImageContents}
use Rattle.guest_image.specs.Machine.{MachineState}
use Rattle.page_book.specs.Books.{BookView}
use Rattle.book_modes.specs.Recordings.{RecordingView}
use Rattle.hart_replay.specs.Images.{GuestTerm, GuestHistory, machine_of, IsHistoryOf}
use Rattle.hart_replay.specs.Primaries.{IsPrimary, IsTermOfBook}
use Rattle.go_live.specs.Quorums.{IsNew}
use Rattle.go_live.specs.Lives.{IsAtPosition}

-- the stores have frames of one history from the image's boot, and no others
pub record AreOfHistory (image : ImageContents) (history : GuestHistory) (stores : List StoreView) : Type 0 where
  pub is_history : IsHistoryOf image history
  pub each : All (HonestStore history) stores

-- the machine is the history's where the opening goes on
abbrev pub IsOfHistory : ImageContents → GuestHistory → MachineState → OpeningParts → Type 0
IsOfHistory image history machine opening =
    view (hardware image.pages) machine ≡ machine_of image history opening.parent (count_at opening.base)

-- a book that goes on from the machine, in a term with this opening, makes the history one term longer: as it begins, and
-- whatever it has recorded and had cut of it later
abbrev pub MakesLonger : ImageContents → GuestHistory → ℕ → MachineState → OpeningParts → Type 0
MakesLonger image history number machine opening =
    history number ≡ None → (book : BookView RecordingView) (past : GuestTerm) → book.start ≡ machine → IsPrimary book → IsTermOfBook book past →
    past.opening ≡ opening → IsHistoryOf image (put history number (Some past))

-- a primary went live in a new term, from stores of the history's frames, and this is what its book tells of the term
pub record WentLive (image : ImageContents) (history : GuestHistory) (number : ℕ) (past : GuestTerm) : Type 0 where
  pub stores : List StoreView
  pub honest : AreOfHistory image history stores
  pub new : IsNew stores number
  pub granted : history number ≡ None
  pub book : BookView RecordingView
  pub primary : IsPrimary book
  pub marks : List ℕ
  pub at : IsAtPosition image stores number book.start past.opening marks
  pub of_book : IsTermOfBook book past

-- the terms are those of primaries that went live one after the other, each from stores of the frames of those before it
pub data ArePrimaries (image : ImageContents) : GuestHistory → Type 0 where
  NoneYet : {history : GuestHistory} → history ≡ no_terms → ArePrimaries image history
  OneMore : {history : GuestHistory} (before : GuestHistory) (number : ℕ) (past : GuestTerm) → ArePrimaries image before →
      WentLive image before number past → history ≡ put before number (Some past) → ArePrimaries image history

-- their terms are an honest history
abbrev pub PrimariesMakeHistories : Type 0
PrimariesMakeHistories = (image : ImageContents) (history : GuestHistory) → ArePrimaries image history → IsHistoryOf image history
