-- A walk that goes on from where an earlier one stopped: private words.
use Rattle.std.specs.Prelude.{ℕ, ◌≡◌, ◌<◌, ◌≤◌, Bool, true, List, Contains, slice_index_or, Option, Some, None}
use Rattle.ft_types.specs.declared.names.TheConstants.{COUNT_LIMIT, HART_LIMIT}
use Rattle.edge_log.specs.declared.Edge.{Edge}
use Rattle.fragment_codec.specs.declared.types.Key.{Key}
use Rattle.fragment_codec.specs.Rules.{FragmentParts}
use Rattle.log_join.specs.Cells.{Cell, One}
use Rattle.log_join.specs.Stores.{StoreView}
use Rattle.closed_cut.specs.Position.{pieces_of, Goes}
use Rattle.tracked_position.specs.declared.walk.Cursor.{Cursor}
use Rattle.tracked_position.specs.declared.walk.Ahead.{Ahead}
use Rattle.tracked_position.specs.declared.walk.Ahead.TheVariants.{Unseen, End, Waits}
use Rattle.tracked_position.specs.machinery.Cuts.{edges_in, Meets, GoesOver}

-- among the edges below the ceiling that the counts do not meet, one with the least count
pub record IsLeastUnmet (edges : List Edge) (cut : ℕ → ℕ) (ceiling : ℕ) (e : Edge) : Type 0 where
  pub has : Contains edges e
  pub below : e.at < ceiling
  pub unmet : cut e.other < e.after
  pub first : (other : Edge) → Contains edges other → other.at < e.at → Meets cut other

-- the walk goes on from the one cursor to the other, and the counts meet each edge on its way that is below the ceiling
pub record GoesTo (pieces : ℕ → Cell FragmentParts) (cut : ℕ → ℕ) (ceiling : ℕ) (from to : Cursor) : Type 0 where
  pub goes : (start : ℕ) → Goes pieces start from.place from.end → Goes pieces start to.place to.end
  pub ahead : from.place ≤ to.place
  pub met : (place : ℕ) (piece : FragmentParts) (e : Edge) → from.place ≤ place → place < to.place → pieces place ≡ One piece →
      Contains (edges_in piece) e → e.at < ceiling → Meets cut e

-- the next piece has an edge below the ceiling that the counts do not meet
pub record StopsBefore (pieces : ℕ → Cell FragmentParts) (cut : ℕ → ℕ) (ceiling : ℕ) (at : Cursor) (e : Edge) : Type 0 where
  pub piece : FragmentParts
  pub one : pieces at.place ≡ One piece
  pub from : piece.from ≡ at.end
  pub least : IsLeastUnmet (edges_in piece) cut ceiling e

-- there is no next piece
abbrev pub EndsAt : (ℕ → Cell FragmentParts) → Cursor → Type 0
EndsAt pieces at = (piece : FragmentParts) → pieces at.place ≡ One piece → piece.from ≡ at.end → ⊥

-- the count at which a walk stopped: that of the edge which stopped it, or where the pieces end
abbrev pub stop_count : Cursor → Option Edge → ℕ
stop_count at None = at.end
stop_count at (Some e) = e.at

-- the hart for which it waits
abbrev pub other_of : Option Edge → Option ℕ
other_of None = None
other_of (Some e) = Some e.other

-- the next piece has this edge, and the counts meet those of its edges that come before
pub record IsFacing (pieces : ℕ → Cell FragmentParts) (cut : ℕ → ℕ) (at : Cursor) (e : Edge) : Type 0 where
  pub piece : FragmentParts
  pub one : pieces at.place ≡ One piece
  pub from : piece.from ≡ at.end
  pub has : Contains (edges_in piece) e
  pub below : e.at < COUNT_LIMIT
  pub first : (other : Edge) → Contains (edges_in piece) other → other.at < e.at → Meets cut other

-- this holds of the piece with which a walk would go on
abbrev pub IsAhead : (ℕ → Cell FragmentParts) → (ℕ → ℕ) → Cursor → Ahead → Type 0
IsAhead pieces cut at Unseen = Unit {0}
IsAhead pieces cut at End = EndsAt pieces at
IsAhead pieces cut at (Waits e) = IsFacing pieces cut at e

-- what stopped a walk
abbrev pub ahead_of : Option Edge → Ahead
ahead_of None = End
ahead_of (Some e) = Waits e

-- the walk from the start came to the cursor, the counts meet each edge on its way, and ahead is what was seen there
pub record IsOver (pieces : ℕ → Cell FragmentParts) (start : ℕ) (cut : ℕ → ℕ) (at : Cursor) : Type 0 where
  pub goes : Goes pieces start at.place at.end
  pub met : (place : ℕ) (piece : FragmentParts) (e : Edge) → place < at.place → pieces place ≡ One piece → Contains (edges_in piece) e → Meets cut e
  pub seen : IsAhead pieces cut at at.ahead

-- where the walk over a hart's pieces stands
abbrev pub cursor_at : List Cursor → ℕ → Cursor
cursor_at cursors hart = slice_index_or cursors hart (record { place = 0; end = 0; ahead = Unseen })

-- where the walk over the piece's hart ended, the piece does not begin
abbrev pub IsApart : List Cursor → Key → ℕ → Type 0
IsApart cursors key from = (cursor_at cursors key.hart).ahead ≡ End → key.place ≡ (cursor_at cursors key.hart).place →
    from ≡ (cursor_at cursors key.hart).end → ⊥

-- the piece stands at this place, with these counts, and its edges are met where that is said
pub record IsPassed (pieces : ℕ → Cell FragmentParts) (cut : ℕ → ℕ) (place from to : ℕ) (met : Bool) (piece : FragmentParts) : Type 0 where
  pub one : pieces place ≡ One piece
  pub from_is : piece.from ≡ from
  pub to_is : piece.to ≡ to
  pub meets : met ≡ true → (e : Edge) → Contains (edges_in piece) e → e.at < COUNT_LIMIT → Meets cut e

-- this holds of each hart
abbrev pub AreOver : StoreView → ℕ → (ℕ → ℕ) → (ℕ → ℕ) → List Cursor → Type 0
AreOver store term base cut cursors = (hart : ℕ) → hart < HART_LIMIT → IsOver (pieces_of store term hart) (base hart) cut (cursor_at cursors hart)

-- the edges of the hart's walk from this place on forbid none of its steps
abbrev pub IsMetFrom : StoreView → ℕ → (ℕ → ℕ) → (ℕ → ℕ) → ℕ → ℕ → Type 0
IsMetFrom store term base cut hart from = (place : ℕ) (piece : FragmentParts) (e : Edge) → from ≤ place →
    GoesOver (pieces_of store term hart) (base hart) place piece → Contains (edges_in piece) e → e.at < cut hart → Meets cut e
