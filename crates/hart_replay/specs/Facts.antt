-- What a leg has of a store.
use Rattle.std.specs.Prelude.{ℕ, zero, suc, ◌≡◌, ◌≤◌, ◌↔◌, List, [], ◌++◌, length, map, filter, nat_lt, Contains}
use Rattle.std.specs.List.{filter_map}
use Rattle.ft_types.specs.Counts.{count_at}
use Rattle.interleaving.specs.Log.{Edge, IsCut}
use Rattle.interleaving.specs.Cuts.{IsEnough, IsSameOrder}
use Rattle.edge_log.specs.EdgeLog.{edge_as, edges_of}
use Rattle.input_log.specs.declared.Input.{Input}
use Rattle.input_log.specs.Inputs.{inputs_of}
use Rattle.input_log.specs.Notes.{greatest}
use Rattle.fragment_codec.specs.declared.types.Record.{Record}
use Rattle.fragment_codec.specs.Rules.{FragmentParts, count_of}
use Rattle.log_join.specs.Cells.{Cell, Absent, One, Clash}
use Rattle.log_join.specs.Stores.{StoreView}
use Rattle.fragment_codec.specs.Facts.{edge_in, input_in, note_in}
use Rattle.closed_cut.specs.Position.{pieces_of, Avail}
use Rattle.hart_replay.specs.declared.plans.PlannedLeg.{PlannedLeg}
use Rattle.hart_replay.specs.Plans.{log_of}

-- the records of a piece, where there is one
abbrev pub records_in : Cell FragmentParts → List Record
records_in Absent = []
records_in (One piece) = piece.records
records_in Clash = []

-- the records of a hart's first places, in order
abbrev pub records_of : (ℕ → Cell FragmentParts) → ℕ → List Record
records_of pieces zero = []
records_of pieces (suc place) = records_of pieces place ++ records_in (pieces place)

-- those at counts below the end
abbrev pub below : ℕ → List Record → List Record
below end records = filter (λ fact. nat_lt (count_of fact) end) records

-- the edges among records, in the theory's words
abbrev pub edges_among : List Record → List Edge
edges_among records = map edge_as (filter_map edge_in records)

-- the inputs among records, each beside its count
abbrev pub inputs_among : List Record → List (ℕ × Input)
inputs_among records = filter_map input_in records

-- the notes among records, each a count and a number
abbrev pub notes_among : List Record → List (ℕ × ℕ)
notes_among records = filter_map note_in records

-- the leg goes from its base to a closed cut, and no further than the pieces without a gap
pub record EndsInside (store : StoreView) (leg : PlannedLeg) : Type 0 where
  pub avail : Avail store leg.term (count_at leg.base)
  pub within : (hart : ℕ) → count_at leg.ends hart ≤ avail.end hart
  pub cut : IsCut (log_of leg) (count_at leg.ends)

-- the facts of a hart inside a leg: the records of its pieces without a gap, in order, as far as the leg's end
abbrev pub facts_of : (store : StoreView) (leg : PlannedLeg) → Avail store leg.term (count_at leg.base) → ℕ → List Record
facts_of store leg avail hart = below (count_at leg.ends hart) (records_of (pieces_of store leg.term hart) (avail.places hart))

-- from the leg's base on, its edges are as good as those among the facts of all harts
pub record HasEdges (store : StoreView) (leg : PlannedLeg) : Type 0 where
  pub avail : Avail store leg.term (count_at leg.base)
  pub all : List Edge
  pub exact : (e : Edge) → Contains all e ↔ ((hart : ℕ) × Contains (edges_among (facts_of store leg avail hart)) e)
  pub enough : IsEnough (edges_of leg.edges) all (count_at leg.base)
  pub same_order : IsSameOrder (edges_of leg.edges) all (count_at leg.base)

-- its inputs are those among the facts of each hart
pub record HasInputs (store : StoreView) (leg : PlannedLeg) : Type 0 where
  pub avail : Avail store leg.term (count_at leg.base)
  pub exact : (hart : ℕ) → inputs_of leg.inputs hart ≡ inputs_among (facts_of store leg avail hart)

-- its mark of each hart is the greatest number of the notes among the hart's facts, or 0
pub record HasMarks (store : StoreView) (leg : PlannedLeg) : Type 0 where
  pub many : length leg.marks ≡ length leg.base
  pub avail : Avail store leg.term (count_at leg.base)
  pub exact : (hart : ℕ) → count_at leg.marks hart ≡ greatest (notes_among (facts_of store leg avail hart))
