-- How the logs of a guest's harts are cut into pieces.
use Rattle.std.specs.Prelude.{◌≡◌, ℕ, ◌+◌, ◌-◌, ◌<◌, ◌^◌, List, [], ◌∷◌, length, map, slice_index, slice_index_or, All, ◌⊎◌}
use Rattle.std.specs.List.{flat_map}
use Rattle.ft_types.specs.Counts.{count_at}
use Rattle.ft_types.specs.Guests.{GuestParts}
use Rattle.edge_log.specs.EdgeLog.{Edges, row_of}
use Rattle.input_log.specs.declared.Input.{Input as HartInput}
use Rattle.input_log.specs.Inputs.{inputs_of}
use Rattle.input_log.specs.Notes.{NotesOfOne, notes_of}
use Rattle.page_book.specs.Books.{BookView}
use Rattle.page_book.specs.machinery.Words.{counts_of, RecordingView}
use Rattle.fragment_codec.specs.declared.types.TheConstants.{RECORD_LIMIT, SPAN_LIMIT}
use Rattle.fragment_codec.specs.declared.types.Record.TheVariants.{Edge as EdgeRecord, Input as InputRecord}
use Rattle.fragment_codec.specs.declared.frame.Frame.{Frame}
use Rattle.fragment_codec.specs.declared.frame.Frame.TheVariants.{Log}
use Rattle.fragment_codec.specs.Rules.{FragmentParts, IsFragment, IsFactOf}
use Rattle.fragment_codec.specs.Facts.{Facts, told_by, facts_between, number_of}

-- ---- the pieces of one hart

-- a hart's log, in a term of a guest, that is settled up to a count
pub record HartLog : Type 0 where
  pub guest : GuestParts
  pub term : ℕ
  pub hart : ℕ
  pub settled : ℕ
  pub facts : Facts

-- how far a hart's log is cut: the place of its next piece, and the count at which that begins
pub record Mark : Type 0 where
  pub place : ℕ
  pub count : ℕ

-- with one count more there were more records, or more counts, than a piece may have
abbrev pub IsFull : Facts → ℕ → ℕ → Type 0
IsFull facts from to = (RECORD_LIMIT < number_of (facts_between from (to + 1) facts)) ⊎ (to + 1 - from ≡ SPAN_LIMIT)

-- The piece of the log that begins at the mark: its records, in the order that fragments have, are exactly the log's facts
-- between its counts, and it goes to the settled count, or so far that with one count more it would have more records or more counts than a
-- piece may have.
pub record IsPiece (log : HartLog) (mark : Mark) (piece : FragmentParts) : Type 0 where
  pub rules : IsFragment piece
  pub same_guest : piece.guest ≡ log.guest
  pub key : piece.key ≡ record { term = log.term; hart = log.hart; place = mark.place }
  pub begins : piece.from ≡ mark.count
  pub exact : told_by piece.records ≡ facts_between piece.from piece.to log.facts
  pub short : piece.to - piece.from < SPAN_LIMIT
  pub far : (piece.to ≡ log.settled) ⊎ ((piece.to < log.settled) × IsFull log.facts piece.from piece.to)

-- where the piece behind this one begins
abbrev pub mark_behind : FragmentParts → Mark
mark_behind piece = record { place = piece.key.place + 1; count = piece.to }

-- pieces of the log that lie without gap from one mark to another
abbrev pub ArePieces : HartLog → Mark → List FragmentParts → Mark → Type 0
ArePieces log old [] new = new ≡ old
ArePieces log old (piece ∷ pieces) new = IsPiece log old piece × ArePieces log (mark_behind piece) pieces new

-- the pieces go from one mark to another, up to the settled count, unless the places, which have 32 bits, run out
pub record IsHartCut (log : HartLog) (old : Mark) (pieces : List FragmentParts) (new : Mark) : Type 0 where
  pub row : ArePieces log old pieces new
  pub end : (new.count ≡ log.settled) ⊎ (new.place ≡ 2 ^ 32)

-- ---- the pieces of all harts

-- for each hart the place of its next piece, and the count that its pieces reach
pub record SealedView : Type 0 where
  pub places : List ℕ
  pub reached : List ℕ

abbrev pub mark_of : SealedView → ℕ → Mark
mark_of seals hart = record { place = slice_index seals.places hart; count = count_at seals.reached hart }

-- the log of a hart, out of those of all harts
abbrev pub hart_log : GuestParts → ℕ → Edges → List (List (ℕ × HartInput)) → List NotesOfOne → List ℕ → ℕ → HartLog
hart_log guest term edges inputs notes settled hart =
    record {
      guest = guest;
      term = term;
      hart = hart;
      settled = count_at settled hart;
      facts = record { edges = row_of edges hart; inputs = inputs_of inputs hart; notes = notes_of notes hart };
    }

-- the log of a hart of a recording book
abbrev pub book_log : GuestParts → ℕ → BookView RecordingView → ℕ → HartLog
book_log guest term book hart =
    record {
      guest = guest;
      term = term;
      hart = hart;
      settled = counts_of book.machine hart;
      facts = record { edges = row_of book.mode.edges hart; inputs = inputs_of book.mode.inputs hart; notes = notes_of book.mode.notes hart };
    }

-- each edge of the log is one that a fragment of a guest with so many harts can tell
abbrev pub AreEdgesOf : ℕ → Edges → Type 0
AreEdgesOf harts edges = (hart : ℕ) → All (λ e. IsFactOf harts hart (EdgeRecord e)) (row_of edges hart)

-- each input of the log is one that such a fragment can tell
abbrev pub AreInputsOf : ℕ → List (List (ℕ × HartInput)) → Type 0
AreInputsOf harts inputs = (hart : ℕ) → All (λ x. IsFactOf harts hart (InputRecord x.0 x.1)) (inputs_of inputs hart)

-- The frames are the pieces of each hart, by rising hart, from where it was sealed to where it now is. There is nothing of
-- other harts than the guest's.
pub record IsCut (logs : ℕ → HartLog) (harts : ℕ) (old : SealedView) (frames : List Frame) (new : SealedView) : Type 0 where
  pub pieces : List (List FragmentParts)
  pub every : length pieces ≡ harts
  pub in_turn : frames ≡ map Log (flat_map (λ of_hart. of_hart) pieces)
  pub each : (hart : ℕ) → IsHartCut (logs hart) (mark_of old hart) (slice_index_or pieces hart []) (mark_of new hart)
  pub same_harts : length new.reached ≡ length old.reached
