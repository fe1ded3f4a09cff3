-- What the records of a hart's log tell: its edges, its inputs, and its notes.
use Rattle.std.specs.Prelude.{ℕ, ◌+◌, Bool, ◌&&◌, ◌==◌, nat_le, nat_lt, List, ◌++◌, length, map, filter, Option, Some, None}
use Rattle.std.specs.List.{filter_map}
use Rattle.edge_log.specs.declared.Edge.{Edge as OwnedEdge}
use Rattle.input_log.specs.declared.Input.{Input as HartInput}
use Rattle.fragment_codec.specs.declared.types.Record.{Record}
use Rattle.fragment_codec.specs.declared.types.Record.TheVariants.{Edge as EdgeRecord, Input as InputRecord, Note as NoteRecord}

-- what a hart's log says: its edges, and its inputs and notes, each beside its count
pub record Facts : Type 0 where
  pub edges : List OwnedEdge
  pub inputs : List (ℕ × HartInput)
  pub notes : List (ℕ × ℕ)

-- the edge, the count and the input, or the count and the number, that a record tells
abbrev pub edge_in : Record → Option OwnedEdge
edge_in (EdgeRecord edge) = Some edge
edge_in (InputRecord at input) = None
edge_in (NoteRecord at number) = None

abbrev pub input_in : Record → Option (ℕ × HartInput)
input_in (EdgeRecord edge) = None
input_in (InputRecord at input) = Some (at, input)
input_in (NoteRecord at number) = None

abbrev pub note_in : Record → Option (ℕ × ℕ)
note_in (EdgeRecord edge) = None
note_in (InputRecord at input) = None
note_in (NoteRecord at number) = Some (at, number)

-- what records tell
abbrev pub told_by : List Record → Facts
told_by records = record { edges = filter_map edge_in records; inputs = filter_map input_in records; notes = filter_map note_in records }

-- the count is at least `from` and below `to`
abbrev pub is_between : ℕ → ℕ → ℕ → Bool
is_between from to count = nat_le from count && nat_lt count to

-- the facts whose counts are between these
abbrev pub facts_between : ℕ → ℕ → Facts → Facts
facts_between from to facts =
    record {
      edges = filter (λ e. is_between from to e.at) facts.edges;
      inputs = filter (λ x. is_between from to x.0) facts.inputs;
      notes = filter (λ x. is_between from to x.0) facts.notes;
    }

-- the records of one count: its edges, then its inputs, and then its notes
abbrev pub records_at : ℕ → Facts → List Record
records_at count facts =
    map EdgeRecord (filter (λ e. e.at == count) facts.edges) ++
    (map (λ x. InputRecord x.0 x.1) (filter (λ x. x.0 == count) facts.inputs) ++
    map (λ x. NoteRecord x.0 x.1) (filter (λ x. x.0 == count) facts.notes))

-- how many edges, inputs and notes
abbrev pub number_of : Facts → ℕ
number_of facts = length facts.edges + (length facts.inputs + length facts.notes)
