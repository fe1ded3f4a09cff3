-- What the facts of a leg are gathered into: private words.
use Rattle.std.specs.Prelude.{ℕ, ◌≡◌, ◌≢◌, ◌≤◌, ◌<◌, ◌++◌, ◌&&◌, Bool, List, All, filter, length, max, nat_le, nat_lt}
use Rattle.interleaving.specs.Log.{Edge}
use Rattle.interleaving.specs.Cuts.{IsEnough}
use Rattle.edge_log.specs.EdgeLog.{Edges, row_of, edges_of, start_of}
use Rattle.input_log.specs.declared.Input.{Input}
use Rattle.input_log.specs.Inputs.{inputs_of}
use Rattle.input_log.specs.Notes.{greatest}
use Rattle.ft_types.specs.Counts.{count_at}
use Rattle.fragment_codec.specs.declared.types.Record.{Record}
use Rattle.fragment_codec.specs.Rules.{FragmentParts, count_of}
use Rattle.log_join.specs.Cells.{One}
use Rattle.log_join.specs.Stores.{StoreView}
use Rattle.closed_cut.specs.Position.{pieces_of, Goes}
use Rattle.hart_replay.specs.declared.plans.PlannedLeg.{PlannedLeg}
use Rattle.hart_replay.specs.Facts.{records_of, below, edges_among, inputs_among, notes_among}

-- the count is the first one or later, and below the end
abbrev pub is_between : ℕ → ℕ → ℕ → Bool
is_between from end count = nat_le from count && nat_lt count end

-- the records at such counts
abbrev pub between : ℕ → ℕ → List Record → List Record
between from end records = filter (λ fact. is_between from end (count_of fact)) records

-- of these edges, all of one hart, those that the counts do not meet were added to a log
pub record TakesUnmet (hart : ℕ) (met : ℕ → ℕ) (old : Edges) (added : List Edge) (new : Edges) : Type 0 where
  pub start : new.start ≡ old.start
  pub others : (other : ℕ) → other ≢ hart → row_of new other ≡ row_of old other
  pub enough : (all : List Edge) → IsEnough (edges_of old) all met → IsEnough (edges_of new) (all ++ added) met

-- those that the log's start does not meet
abbrev pub TakesEdges : ℕ → Edges → List Edge → Edges → Type 0
TakesEdges hart old added new = TakesUnmet hart (start_of old) old added new

-- a hart's edges are of no step after this count
abbrev pub EdgesEndBy : Edges → ℕ → ℕ → Type 0
EdgesEndBy log hart count = All (λ e. e.at ≤ count) (row_of log hart)

-- these inputs were added to a log, all of them of one hart
pub record TakesInputs (hart : ℕ) (old : List (List (ℕ × Input))) (added : List (ℕ × Input)) (new : List (List (ℕ × Input))) : Type 0 where
  pub own : inputs_of new hart ≡ inputs_of old hart ++ added
  pub others : (other : ℕ) → other ≢ hart → inputs_of new other ≡ inputs_of old other

-- a hart's inputs are below this count
abbrev pub InputsEndBelow : List (List (ℕ × Input)) → ℕ → ℕ → Type 0
InputsEndBelow log hart count = All (λ x. x.0 < count) (inputs_of log hart)

-- a hart's mark was raised to the greatest number of these notes
pub record TakesNotes (hart : ℕ) (old : List ℕ) (added : List (ℕ × ℕ)) (new : List ℕ) : Type 0 where
  pub many : length new ≡ length old
  pub own : count_at new hart ≡ max (count_at old hart) (greatest added)
  pub others : (other : ℕ) → other ≢ hart → count_at new other ≡ count_at old other

-- a leg got the facts of a hart
pub record TakesHart (store : StoreView) (hart : ℕ) (old new : PlannedLeg) : Type 0 where
  pub places : ℕ
  pub end : ℕ
  pub goes : Goes (pieces_of store old.term hart) (count_at old.base hart) places end
  pub stops : (piece : FragmentParts) → pieces_of store old.term hart places ≡ One piece → piece.from ≡ end → ⊥
  pub edges : TakesEdges hart old.edges (edges_among (below (count_at old.ends hart) (records_of (pieces_of store old.term hart) places))) new.edges
  pub inputs : TakesInputs hart old.inputs (inputs_among (below (count_at old.ends hart) (records_of (pieces_of store old.term hart) places))) new.inputs
  pub notes : TakesNotes hart old.marks (notes_among (below (count_at old.ends hart) (records_of (pieces_of store old.term hart) places))) new.marks
