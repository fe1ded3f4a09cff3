-- What a recording book, its opening and its pieces tell of a term.
use Rattle.std.specs.Prelude.{ℕ, ◌≡◌, ◌<◌, ◌≤◌, ◌++◌, List, [], length, Option, Some, Contains}
use Rattle.ft_types.specs.Counts.{count_at}
use Rattle.ft_types.specs.Guests.{GuestParts}
use Rattle.interleaving.specs.Lists.{put}
use Rattle.interleaving.specs.Stored.{view}
use Rattle.edge_log.specs.EdgeLog.{IsLog, row_of}
use Rattle.input_log.specs.Inputs.{inputs_of}
use Rattle.input_log.specs.Notes.{notes_of}
use Rattle.rv32_hart.specs.Hart.{Hart}
use Rattle.rv32_hart.specs.Hardware.{hardware}
use Rattle.guest_image.specs.Image.{ImageContents}
use Rattle.guest_image.specs.Machine.{boot_machine}
use Rattle.page_book.specs.Books.{BookView}
use Rattle.page_book.specs.Tellings.{TellsOn}
use Rattle.book_modes.specs.Recordings.{RecordingView, heard_by, log_of, HasHonestLog}
use Rattle.hart_lease.specs.Runs.{counts_of, journal_turns}
use Rattle.fragment_codec.specs.declared.frame.Frame.{Frame}
use Rattle.fragment_codec.specs.declared.frame.Frame.TheVariants.{Log}
use Rattle.fragment_codec.specs.Rules.{FragmentParts, OpeningParts}
use Rattle.fragment_codec.specs.Facts.{told_by, facts_between}
use Rattle.log_pieces.specs.Pieces.{SealedView, mark_of, IsCut as AreCut, book_log}
use Rattle.log_join.specs.Families.{no_terms, end_of, HasPieces, OfFamily}
use Rattle.hart_replay.specs.Histories.{TermHistory, TellsOf, IsPlace}
use Rattle.hart_replay.specs.Images.{GuestTerm, GuestHistory, machine_of, IsTermOf, IsHistoryOf}

-- A recording book, whose log is honest, as its contract has it.
pub record IsPrimary (book : BookView RecordingView) : Type 0 where
  pub log : IsLog book.mode.edges.start book.mode.edges.rows
  pub honest : HasHonestLog book.mode.edges (heard_by book.mode) book.start book.journal book.machine

-- what happened in the term in which it recorded: it went on from the book's start, by the steps of its journal
abbrev pub term_of : BookView RecordingView → TermHistory (Option Hart) (Option (List ℕ))
term_of book =
    record {
      start = view (hardware (length book.start.pages)) book.start;
      turns = journal_turns (heard_by book.mode) book.start book.journal;
      log = log_of book.mode.edges (heard_by book.mode) book.start book.machine;
    }

-- the piece has exactly the book's records of the hart in its range
pub record IsPieceOf (book : BookView RecordingView) (hart : ℕ) (piece : FragmentParts) : Type 0 where
  pub settled : piece.to ≤ counts_of book.machine hart
  pub exact : told_by piece.records ≡ facts_between piece.from piece.to (record {
    edges = row_of book.mode.edges hart;
    inputs = inputs_of book.mode.inputs hart;
    notes = notes_of book.mode.notes hart;
  })

-- the term is the book's: its opening has the counts of the book's start, and its pieces are the book's, without a gap from there
pub record IsTermOfBook (book : BookView RecordingView) (past : GuestTerm) : Type 0 where
  pub told : past.told ≡ term_of book
  pub base : (hart : ℕ) → count_at past.opening.base hart ≡ counts_of book.start hart
  pub pieces : HasPieces (λ told. IsPieceOf book) past

-- ---- pieces

-- each frame that is cut of a book is such a piece
abbrev pub CutsArePieces : Type 0
CutsArePieces =
    (guest : GuestParts) (term : ℕ) (book : BookView RecordingView) (old new : SealedView) (frames : List Frame) (piece : FragmentParts) →
    AreCut (book_log guest term book) guest.harts old frames new → Contains frames (Log piece) → IsPieceOf book piece.key.hart piece

-- which it is still of each book that goes on from there
abbrev pub PiecesLast : Type 0
PiecesLast =
    (b c : BookView RecordingView) (hart : ℕ) (piece : FragmentParts) → TellsOn b c → IsPieceOf b hart piece → IsPieceOf c hart piece

-- and tells truly of the book's term
abbrev pub PiecesTell : Type 0
PiecesTell =
    (book : BookView RecordingView) (hart : ℕ) (piece : FragmentParts) → IsPrimary book → IsPieceOf book hart piece → TellsOf (term_of book).log hart piece

-- ---- terms

-- the book's term before anything of it is sealed
abbrev pub unsealed : OpeningParts → BookView RecordingView → GuestTerm
unsealed opening book = record { opening = opening; pieces = λ hart. []; told = term_of book }

abbrev pub UnsealedIsOfBook : Type 0
UnsealedIsOfBook =
    (book : BookView RecordingView) (opening : OpeningParts) → ((hart : ℕ) → count_at opening.base hart ≡ counts_of book.start hart) →
    IsTermOfBook book (unsealed opening book)

-- each hart's pieces have come to its mark
abbrev pub IsSealedTo : GuestTerm → SealedView → Type 0
IsSealedTo past seals =
    (hart : ℕ) → mark_of seals hart ≡
    record { place = length (past.pieces hart); count = end_of (count_at past.opening.base hart) (past.pieces hart) }

-- the term with these pieces behind those that it had
abbrev pub with_pieces : GuestTerm → (ℕ → List FragmentParts) → GuestTerm
with_pieces past more = record past { pieces = λ hart. past.pieces hart ++ more hart }

-- frames that were cut of the book are its term's, behind those before them
pub record SealsMore (number : ℕ) (book : BookView RecordingView) (past : GuestTerm) (frames : List Frame) (new : SealedView) : Type 0 where
  pub more : ℕ → List FragmentParts
  pub is_of_book : IsTermOfBook book (with_pieces past more)
  pub sealed : IsSealedTo (with_pieces past more) new
  pub of_family : (history : GuestHistory) (frame : Frame) → Contains frames frame → OfFamily (put history number (Some (with_pieces past more))) frame

abbrev pub CutsSealMore : Type 0
CutsSealMore =
    (guest : GuestParts) (number : ℕ) (book : BookView RecordingView) (past : GuestTerm) (old new : SealedView) (frames : List Frame) →
    IsTermOfBook book past → IsSealedTo past old → AreCut (book_log guest number book) guest.harts old frames new → SealsMore number book past frames new

-- a book that goes on has the frames that it had
abbrev pub TermsGoOn : Type 0
TermsGoOn =
    (b c : BookView RecordingView) (past : GuestTerm) → IsTermOfBook b past → c.start ≡ b.start → TellsOn b c →
    IsTermOfBook c (record past { told = term_of c })

-- ---- histories

-- the term of a book that began at a place of an older term, with the machine there, is a term of the history
abbrev pub BooksAreTerms : Type 0
BooksAreTerms =
    (image : ImageContents) (history : GuestHistory) (number : ℕ) (book : BookView RecordingView) (past : GuestTerm) →
    IsPrimary book → length book.start.pages ≡ image.pages → IsTermOfBook book past → past.opening.parent < number →
    view (hardware image.pages) book.start ≡ machine_of image history past.opening.parent (counts_of book.start) →
    IsPlace history past.opening.parent (counts_of book.start) → IsTermOf image history number past

-- so a book that began at boot is a history of one term
abbrev pub PrimariesAreHistories : Type 0
PrimariesAreHistories =
    (image : ImageContents) (number : ℕ) (book : BookView RecordingView) (past : GuestTerm) → IsPrimary book → book.start ≡ boot_machine image →
    IsTermOfBook book past → past.opening.parent ≡ 0 → 0 < number → IsHistoryOf image (put no_terms number (Some past))
