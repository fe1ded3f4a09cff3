-- Pieces of a hart's log, in the words of the theory.
use Rattle.std.specs.Prelude.{◌≡◌, ◌≤◌, ◌↔◌, map, Contains}
use Rattle.interleaving.specs.Log.{Edge}
use Rattle.edge_log.specs.EdgeLog.{edge_as}
use Rattle.fragment_codec.specs.Rules.{FragmentParts}
use Rattle.log_pieces.specs.Pieces.{HartLog, Mark, IsPiece}
use Rattle.fenced_theory.specs.Recorders.{Recorder}
use Rattle.fenced_theory.specs.Families.{IsCutFrom}
use Rattle.fenced_theory.specs.Notes.{HasNotes}

-- a piece of the log tells the log's notes of its range
abbrev pub PiecesTellNotes : Type 0
PiecesTellNotes = (log : HartLog) (mark : Mark) (x : FragmentParts) → IsPiece log mark x → HasNotes log.facts.notes x

module _ {Book Fact : Type 0} (recorder : Recorder Book Fact) where
  -- the hart's log is the book's, and settled at most up to the book's counts
  pub record IsLogOf (b : Book) (log : HartLog) : Type 0 where
    pub settled : log.settled ≤ recorder.counts b log.hart
    pub edges : (e : Edge) → Contains (map edge_as log.facts.edges) e ↔ (Contains (recorder.edges b) e × (e.hart ≡ log.hart))

  -- a piece of the log is cut from the book
  abbrev pub PiecesAreCuts : Type 0
  PiecesAreCuts = (b : Book) (log : HartLog) (mark : Mark) (x : FragmentParts) → IsLogOf b log → IsPiece log mark x → IsCutFrom recorder b log.hart x
