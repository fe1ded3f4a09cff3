-- A history that goes on with one more term, as a book records it that began at a position.
use Rattle.std.specs.Prelude.{ℕ, ◌≡◌, ◌≢◌, ◌<◌, ◌≤◌, ◌++◌, List, Some, None, All, length, nat_lt, if◌then◌else◌}
use Rattle.ft_types.specs.Counts.{count_at}
use Rattle.interleaving.specs.Lists.{put}
use Rattle.interleaving.specs.Machine.{Machine, System, counts}
use Rattle.interleaving.specs.Log.{IsCut}
use Rattle.interleaving.specs.Stored.{view}
use Rattle.input_log.specs.declared.Input.{Input}
use Rattle.rv32_hart.specs.Hardware.{hardware}
use Rattle.guest_image.specs.Image.{ImageContents}
use Rattle.page_book.specs.Books.{BookView}
use Rattle.book_modes.specs.Recordings.{RecordingView}
use Rattle.hart_lease.specs.Runs.{counts_of}
use Rattle.fragment_codec.specs.Rules.{FragmentParts}
use Rattle.log_join.specs.Stores.{StoreView, IsStore, IsLastTerm}
use Rattle.log_join.specs.Families.{Past, Family, GrowsTo}
use Rattle.closed_cut.specs.Position.{IsPosition}
use Rattle.ft_types.specs.declared.position.Position.{Position}
use Rattle.hart_replay.specs.declared.plans.PlannedLeg.{PlannedLeg}
use Rattle.hart_replay.specs.Histories.{TermHistory, History, InTerm, machine_at, IsTerm, IsHistory, IsHonestStore}
use Rattle.hart_replay.specs.Images.{GuestTerm, GuestHistory, machine_of, IsTermOf, IsHistoryOf, IsHonestStoreOf}
use Rattle.hart_replay.specs.Laws.{ArePlanned}
use Rattle.hart_replay.specs.Replays.{IsOutcome}
use Rattle.hart_replay.specs.Primaries.{IsPrimary, IsTermOfBook}

-- ---- positions

module _ {Hart Page : Type 0} (system : System Hart Page (List Input)) where
  -- each leg of a plan of honest frames ends at a cut of its term
  abbrev pub LegsEndAtCuts : Type 0
  LegsEndAtCuts =
      (boot : Machine Hart Page) (history : History Hart Page) (store : StoreView) (position : Position) (legs : List PlannedLeg) →
      IsStore store → IsHonestStore system boot history store → ArePlanned store position legs →
      All (λ leg. InTerm history leg.term (λ t. IsCut t.log (count_at leg.ends))) legs

  -- the counts are a cut of the term, and those of the machine there
  pub record StandsAt (history : History Hart Page) (boot : Machine Hart Page) (term : ℕ) (cut : ℕ → ℕ) : Type 0 where
    pub is_cut : InTerm history term (λ t. IsCut t.log cut)
    pub counts : (hart : ℕ) → counts system (machine_at system boot history term cut) hart ≡ cut hart

  -- so are a position's, unless it is boot
  abbrev pub PositionsAreCuts : Type 0
  PositionsAreCuts =
      (boot : Machine Hart Page) (history : History Hart Page) (store : StoreView) (position : Position) (legs : List PlannedLeg) →
      IsStore store → IsHonestStore system boot history store → ArePlanned store position legs → position.term ≢ 0 →
      StandsAt history boot position.term (count_at position.counts)

-- and its term is none above those of the store
abbrev pub PositionsAreKnown : Type 0
PositionsAreKnown =
    (store : StoreView) (position : Position) (last : ℕ) → IsPosition store position → IsLastTerm store last → position.term ≤ last

-- ---- histories that go on

-- a family with a term more has each frame that it had
abbrev pub NewTermsGrow : Type 0 → Type 0
NewTermsGrow Told = (terms : Family Told) (number : ℕ) (past : Past Told) → terms number ≡ None → GrowsTo terms (put terms number (Some past))

-- and so has one whose last term has more pieces, whatever is told of it
abbrev pub NewPiecesGrow : Type 0 → Type 0
NewPiecesGrow Told =
    (terms : Family Told) (number : ℕ) (past : Past Told) (told : Told) (more : ℕ → List FragmentParts) →
    GrowsTo (put terms number (Some past))
    (put terms number (Some (record { opening = past.opening; pieces = λ hart. past.pieces hart ++ more hart; told = told })))

-- the terms below this one
abbrev pub before : {Told : Type 0} → ℕ → Family Told → Family Told
before number terms term = if nat_lt term number then terms term else None

module _ {Hart Page : Type 0} (system : System Hart Page (List Input)) where
  -- a history may go on with a term that was not granted
  abbrev pub HistoriesGoOn : Type 0
  HistoriesGoOn =
      (boot : Machine Hart Page) (history : History Hart Page) (number : ℕ) (past : Past (TermHistory Hart Page)) →
      IsHistory system boot history → history number ≡ None → IsTerm system boot history number past →
      IsHistory system boot (put history number (Some past))

  -- stores of honest frames stay what they are
  abbrev pub StoresStay : Type 0
  StoresStay =
      (boot : Machine Hart Page) (history : History Hart Page) (number : ℕ) (past : Past (TermHistory Hart Page)) (store : StoreView) →
      history number ≡ None → IsTerm system boot history number past → IsHonestStore system boot history store →
      IsHonestStore system boot (put history number (Some past)) store

  -- a store that knows no term from this number on is one of the history without those, where the number is not granted
  abbrev pub LaterTermsAreNew : Type 0
  LaterTermsAreNew =
      (boot : Machine Hart Page) (history : History Hart Page) (store : StoreView) (last number : ℕ) →
      IsHonestStore system boot history store → IsLastTerm store last → last < number →
      IsHonestStore system boot (before number history) store × (before number history number ≡ None)

-- ---- books

-- the book records from the machine of the history at a cut of a term
pub record BeginsAt (image : ImageContents) (history : GuestHistory) (term : ℕ) (cut : ℕ → ℕ) (book : BookView RecordingView) : Type 0 where
  pub primary : IsPrimary book
  pub pages : length book.start.pages ≡ image.pages
  pub start : view (hardware image.pages) book.start ≡ machine_of image history term cut

-- a book that begins with what a plan of honest frames leads to begins at the position
abbrev pub OutcomesBegin : Type 0
OutcomesBegin =
    (image : ImageContents) (history : GuestHistory) (joined : StoreView) (position : Position) (legs : List PlannedLeg) (book : BookView RecordingView) →
    IsStore joined → IsHonestStoreOf image history joined → ArePlanned joined position legs → IsOutcome image legs book.start → IsPrimary book →
    BeginsAt image history position.term (count_at position.counts) book

-- a book that begins at the position of a store of honest frames begins with its counts
abbrev pub BooksHaveCounts : Type 0
BooksHaveCounts =
    (image : ImageContents) (history : GuestHistory) (joined : StoreView) (position : Position) (legs : List PlannedLeg) (book : BookView RecordingView) →
    IsStore joined → IsHonestStoreOf image history joined → IsPosition joined position → ArePlanned joined position legs →
    BeginsAt image history position.term (count_at position.counts) book → (hart : ℕ) → counts_of book.start hart ≡ count_at position.counts hart

-- Where a book begins at the position of a store of honest frames, in a later term that was not granted, the history goes on
-- with the book's term, whose opening names the position's.
abbrev pub BooksGoLive : Type 0
BooksGoLive =
    (image : ImageContents) (history : GuestHistory) (joined : StoreView) (position : Position) (legs : List PlannedLeg) (number : ℕ)
    (book : BookView RecordingView) (past : GuestTerm) →
    IsStore joined → IsHonestStoreOf image history joined → IsPosition joined position → ArePlanned joined position legs →
    history number ≡ None → position.term < number → BeginsAt image history position.term (count_at position.counts) book →
    IsTermOfBook book past → past.opening.parent ≡ position.term → IsHistoryOf image (put history number (Some past))

-- that the book goes on takes nothing from this
abbrev pub BooksGoOn : Type 0
BooksGoOn =
    (image : ImageContents) (history : GuestHistory) (term : ℕ) (cut : ℕ → ℕ) (b c : BookView RecordingView) →
    BeginsAt image history term cut b → c.start ≡ b.start → IsPrimary c → BeginsAt image history term cut c

-- stores of the older frames stay what they are
abbrev pub StoresOfImageStay : Type 0
StoresOfImageStay =
    (image : ImageContents) (history : GuestHistory) (number : ℕ) (past : GuestTerm) (store : StoreView) →
    history number ≡ None → IsTermOf image history number past → IsHonestStoreOf image history store →
    IsHonestStoreOf image (put history number (Some past)) store

-- and one that knows no term from this number on is one of the history without those
abbrev pub LaterTermsOfImage : Type 0
LaterTermsOfImage =
    (image : ImageContents) (history : GuestHistory) (store : StoreView) (last number : ℕ) →
    IsHonestStoreOf image history store → IsLastTerm store last → last < number →
    IsHonestStoreOf image (before number history) store × (before number history number ≡ None)
