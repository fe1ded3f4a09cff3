-- A leg that grows by what came of its harts.
use Rattle.std.specs.Prelude.{◌≡◌, ◌≢◌, ◌≤◌, ◌<◌, ◌++◌, ℕ, List, [], Contains, length, slice_index_or}
use Rattle.ft_types.specs.Counts.{count_at}
use Rattle.interleaving.specs.Log.{Edge}
use Rattle.interleaving.specs.Cuts.{IsEnough}
use Rattle.edge_log.specs.EdgeLog.{AddsLater, edges_of, row_of}
use Rattle.input_log.specs.Inputs.{inputs_of, HearsMore}
use Rattle.fragment_codec.specs.declared.types.Record.{Record}
use Rattle.log_join.specs.Stores.{StoreView}
use Rattle.closed_cut.specs.Position.{pieces_of, Avail, Goes}
use Rattle.book_modes.specs.declared.mode.Leg.{Leg}
use Rattle.hart_replay.specs.declared.plans.PlannedLeg.{PlannedLeg}
use Rattle.hart_replay.specs.Facts.{HasEdges, HasInputs, HasMarks, below, edges_among, inputs_among, notes_among, records_of}
use Rattle.hart_replay.specs.machinery.Taking.{TakesEdges, TakesUnmet, TakesInputs, TakesNotes}
use Rattle.warm_backup.specs.declared.growing.Cursor.{Cursor}

-- where the walk over a hart's pieces stands
abbrev pub cursor_at : List Cursor → ℕ → Cursor
cursor_at cursors hart = slice_index_or cursors hart (record { place = 0; end = 0 })

-- the walk went over so many of the hart's pieces, and not past the leg's end
pub record Walks (store : StoreView) (leg : PlannedLeg) (hart : ℕ) (cursor : Cursor) : Type 0 where
  pub goes : Goes (pieces_of store leg.term hart) (count_at leg.base hart) cursor.place cursor.end
  pub within : cursor.end ≤ count_at leg.ends hart

-- the leg has what the store tells up to its ends
pub record HasFacts (store : StoreView) (leg : PlannedLeg) : Type 0 where
  pub start : leg.edges.start ≡ leg.base
  pub harts : length leg.base ≡ store.guest.harts
  pub many_ends : length leg.ends ≡ length leg.base
  pub inside : (avail : Avail store leg.term (count_at leg.base)) (hart : ℕ) → count_at leg.ends hart ≤ avail.end hart
  pub edges : HasEdges store leg
  pub inputs : HasInputs store leg
  pub marks : HasMarks store leg

-- a hart's facts were added, and nothing else has changed but its end
pub record TakesFacts (hart : ℕ) (old : PlannedLeg) (added : List Record) (new : PlannedLeg) : Type 0 where
  pub term : new.term ≡ old.term
  pub base : new.base ≡ old.base
  pub edges : TakesEdges hart old.edges (edges_among added) new.edges
  pub inputs : TakesInputs hart old.inputs (inputs_among added) new.inputs
  pub notes : TakesNotes hart old.marks (notes_among added) new.marks

-- a hart's facts were added to what is to be done from these counts on
pub record TakesWork (hart : ℕ) (now : ℕ → ℕ) (old : Leg) (added : List Record) (new : Leg) : Type 0 where
  pub edges : TakesUnmet hart now old.edges (edges_among added) new.edges
  pub inputs : TakesInputs hart old.inputs (inputs_among added) new.inputs

-- the same facts were added to both, all of the hart's steps from this count on
pub record TakesOf (hart from : ℕ) (now : ℕ → ℕ) (old : PlannedLeg) (before : Leg) (new : PlannedLeg) (after : Leg) : Type 0 where
  pub added : List Record
  pub late : (e : Edge) → Contains (edges_among added) e → (e.hart ≡ hart) × (from ≤ e.step)
  pub leg : TakesFacts hart old added new
  pub rest : TakesWork hart now before added after

-- and they are those that the store has of the hart between the leg's end and this one
pub record TakesUpTo (store : StoreView) (hart end : ℕ) (now : ℕ → ℕ) (old : PlannedLeg) (before : Leg) (new : PlannedLeg) (after : Leg) : Type 0 where
  pub taken : TakesOf hart (count_at old.ends hart) now old before new after
  pub exact : (places far : ℕ) → Goes (pieces_of store old.term hart) (count_at old.base hart) places far → end ≤ far →
      below end (records_of (pieces_of store old.term hart) places) ≡
      below (count_at old.ends hart) (records_of (pieces_of store old.term hart) places) ++ taken.added

-- what was added is of a hart's steps from this count on
pub record GrowsFrom (hart from : ℕ) (old new : PlannedLeg) : Type 0 where
  pub term : new.term ≡ old.term
  pub base : new.base ≡ old.base
  pub edges : (settled : ℕ → ℕ) → settled hart ≤ from → AddsLater old.edges settled new.edges
  pub inputs : HearsMore (inputs_of old.inputs hart) from (inputs_of new.inputs hart)
  pub others : (other : ℕ) → other ≢ hart → inputs_of new.inputs other ≡ inputs_of old.inputs other

-- what was added is of steps from the old leg's ends on
pub record Grows (old new : PlannedLeg) : Type 0 where
  pub term : new.term ≡ old.term
  pub base : new.base ≡ old.base
  pub edges : AddsLater old.edges (count_at old.ends) new.edges
  pub inputs : (hart : ℕ) → HearsMore (inputs_of old.inputs hart) (count_at old.ends hart) (inputs_of new.inputs hart)

-- it asks for nothing
pub record AsksForNothing (rest : Leg) : Type 0 where
  pub rows : (hart : ℕ) → row_of rest.edges hart ≡ []
  pub edges : edges_of rest.edges ≡ []
  pub inputs : (hart : ℕ) → inputs_of rest.inputs hart ≡ []

-- of so many harts
abbrev pub AsksForNothingOf : Leg → ℕ → Type 0
AsksForNothingOf rest harts = (hart : ℕ) → hart < harts → (row_of rest.edges hart ≡ []) × (inputs_of rest.inputs hart ≡ [])

-- what was done of the leg: it began no later than the leg's ends, and asked of the leg's harts alone
pub record IsBehind (leg : PlannedLeg) (done : Leg) : Type 0 where
  pub harts : length done.edges.start ≡ length leg.base
  pub start : (hart : ℕ) → count_at done.edges.start hart ≤ count_at leg.ends hart
  pub rows : (hart : ℕ) → length leg.base ≤ hart → row_of done.edges hart ≡ []
  pub inputs : (hart : ℕ) → length leg.base ≤ hart → inputs_of done.inputs hart ≡ []

-- the counts are those to which the leg may grow
pub record IsNext (store : StoreView) (leg : PlannedLeg) (ends : List ℕ) : Type 0 where
  pub harts : length ends ≡ length leg.ends
  pub up : (hart : ℕ) → count_at leg.ends hart ≤ count_at ends hart
  pub inside : (avail : Avail store leg.term (count_at leg.base)) → (hart : ℕ) → count_at ends hart ≤ avail.end hart

-- nothing is to be done yet from the old leg's ends on
pub record IsFresh (old : PlannedLeg) (rest : Leg) : Type 0 where
  pub harts : length rest.edges.start ≡ length old.base
  pub start : (hart : ℕ) → count_at rest.edges.start hart ≤ count_at old.ends hart
  pub nothing : AsksForNothing rest

-- what came of the leg since the old one: it says of the steps from the old ends on what the leg says
pub record IsRest (old new : PlannedLeg) (rest : Leg) : Type 0 where
  pub added : List Edge
  pub late : (e : Edge) → Contains added e → count_at old.ends e.hart ≤ e.step
  pub enough : IsEnough (edges_of rest.edges) added (count_at old.ends)
  pub whole : (all : List Edge) → IsEnough (edges_of old.edges) all (count_at old.base) → IsEnough (edges_of new.edges) (all ++ added) (count_at old.base)
  pub inputs : (hart : ℕ) → inputs_of new.inputs hart ≡ inputs_of old.inputs hart ++ inputs_of rest.inputs hart
