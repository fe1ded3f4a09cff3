-- Records on their way into pieces: private words.
use Rattle.std.specs.Prelude.{◌≡◌, ◌≢◌, ℕ, ◌+◌, ◌-◌, ◌≤◌, ◌<◌, ◌^◌, min, List, ◌∷◌, ◌++◌, length, map, take, drop, slice_get, count_by, Option, Some, None, All}
use Rattle.std.specs.List.{AllByRecursion}
use Rattle.edge_log.specs.declared.Edge.{Edge as OwnedEdge}
use Rattle.input_log.specs.declared.Input.{Input as HartInput}
use Rattle.ft_types.specs.declared.names.TheConstants.{COUNT_LIMIT, HART_ROW, INPUT_LIMIT}
use Rattle.fragment_codec.specs.declared.types.TheConstants.{RECORD_LIMIT, SPAN_LIMIT}
use Rattle.fragment_codec.specs.declared.types.Record.{Record}
use Rattle.fragment_codec.specs.declared.types.Record.TheVariants.{Edge as EdgeRecord, Input as InputRecord, Note as NoteRecord}
use Rattle.fragment_codec.specs.declared.frame.Frame.{Frame}
use Rattle.fragment_codec.specs.declared.frame.Frame.TheVariants.{Log}
use Rattle.ft_types.specs.Guests.{IsGuest}
use Rattle.fragment_codec.specs.Rules.{count_of, FragmentParts, IsFactOf, AreInOrder, is_input_at}
use Rattle.fragment_codec.specs.Facts.{told_by}
use Rattle.log_pieces.specs.Pieces.{HartLog, Mark, SealedView, mark_of, IsHartCut}
use Rattle.log_pieces.specs.declared.cutting.Origin.{Origin}

-- a next place for each of HART_ROW harts
pub record ArePlaces (places : List ℕ) : Type 0 where
  pub many : length places ≡ HART_ROW
  pub below : AllByRecursion (λ place. place ≤ 2 ^ 32) places

-- records of a hart, of any number, that keep all other rules
pub record AreLogged (harts hart : ℕ) (records : List Record) : Type 0 where
  pub each : AllByRecursion (IsFactOf harts hart) records
  pub order : AreInOrder records
  pub inputs : (count : ℕ) → count_by (is_input_at count) records ≤ INPUT_LIMIT

-- records stand at these counts
abbrev pub StandBetween : ℕ → ℕ → List Record → Type 0
StandBetween from to records = AllByRecursion (λ fact. (from ≤ count_of fact) × (count_of fact < to)) records

-- where the piece that begins with these records ends
abbrev pub end_at : Option Record → ℕ → ℕ
end_at None settled = settled
end_at (Some fact) settled = count_of fact

abbrev pub end_of : List Record → ℕ → ℕ → ℕ
end_of records from settled = min (end_at (slice_get records RECORD_LIMIT) settled) (from + (SPAN_LIMIT - 1))

-- the records, as a hart's log
abbrev pub log_of_records : Origin → List Record → HartLog
log_of_records origin records =
    record { guest = origin.guest; term = origin.term; hart = origin.hart; settled = origin.settled; facts = told_by records }

-- the records can be cut from the mark on
pub record MayCut (origin : Origin) (records : List Record) (mark : Mark) : Type 0 where
  pub guest : IsGuest origin.guest
  pub own : origin.hart < origin.guest.harts
  pub granted : 1 ≤ origin.term
  pub fits : origin.term < 2 ^ 32
  pub end : origin.settled < COUNT_LIMIT
  pub within : mark.count ≤ origin.settled
  pub logged : AreLogged origin.guest.harts origin.hart records
  pub there : StandBetween mark.count origin.settled records

-- the records of one hart were cut, and the frames of its pieces added
pub record CutsHart (log : HartLog) (old : SealedView) (before : List Frame) (new : SealedView) (after : List Frame) : Type 0 where
  pub pieces : List FragmentParts
  pub added : after ≡ before ++ map Log pieces
  pub cut : IsHartCut log (mark_of old log.hart) pieces (mark_of new log.hart)
  pub others : (hart : ℕ) → hart ≢ log.hart → mark_of new hart ≡ mark_of old hart
  pub same_harts : length new.reached ≡ length old.reached

-- the record comes first of these edges and inputs
abbrev pub IsFirst : List OwnedEdge → List ℕ → List HartInput → Record → Type 0
IsFirst edges counts inputs (EdgeRecord edge) = (edges ≡ edge ∷ drop 1 edges) × All (λ count. edge.at ≤ count) (take 1 counts)
IsFirst edges counts inputs (InputRecord at input) =
    (counts ≡ at ∷ drop 1 counts) × (inputs ≡ input ∷ drop 1 inputs) × All (λ edge. at < edge.at) (take 1 edges)
IsFirst edges counts inputs (NoteRecord at number) = ⊥
