-- What a book knows of its open leases.
use Rattle.std.specs.Prelude.{ℕ, List, [], ◌++◌, Bool, is_some, slice_set, slice_index_or, Box, Option, Some, None, replicate, true, false, ◌≡◌, ◌≢◌}
use Rattle.std.specs.Global.{Global}
use Rattle.ft_types.specs.declared.names.Want.{Want}
use Rattle.edge_log.specs.declared.Edge.{Edge}
use Rattle.input_log.specs.declared.Input.{Input}
use Rattle.smallvec.specs.SmallVec.{SmallVec}
use Rattle.hart_lease.specs.declared.taken.Taken.{Taken}
use Rattle.hart_lease.specs.Taken.{taken_at, right_of_taken, taking}
use Rattle.ft_types.specs.declared.names.Want.TheVariants.{Read, Write}

pub record OpenView : Type 0 where
  pub stop : ℕ  -- the count that it does not go past
  pub inputs : List Input  -- of its first step
  pub taken : List (Option Taken)  -- since when it has each page
  pub edges : List Edge  -- the edges that wait in it

-- the edges that wait, once these stand in their place, where there are any
abbrev pub edges_after : Option (Box (SmallVec Edge) Global) → List Edge → List Edge
edges_after None waiting = waiting
edges_after (Some all) waiting = all.value.items

-- the open lease of a hart
abbrev pub open_at : List (Option OpenView) → ℕ → Option OpenView
open_at leases hart = slice_index_or leases hart None

-- what a hart that is lent goes out with
pub record LentView : Type 0 where
  pub stop : ℕ  -- the count that its lease does not go past
  pub inputs : List Input  -- of its next step
  pub edges : List Edge  -- those that its next step owes, whatever page it uses

abbrev pub lent_with : ℕ → List Input → List Edge → LentView
lent_with stop inputs edges = record { stop = stop; inputs = inputs; edges = edges }

-- with nothing, and no way to go
abbrev pub idle : LentView
idle = record { stop = 0; inputs = []; edges = [] }

-- a lease that goes out so, and took these pages
abbrev pub opened_with : List (Option Taken) → LentView → OpenView
opened_with taken lent = record { stop = lent.stop; inputs = lent.inputs; taken = taken; edges = lent.edges }

-- a lease of none of so many pages
abbrev pub nothing_taken : ℕ → LentView → OpenView
nothing_taken pages lent = opened_with (replicate pages None) lent

-- the right that an open lease has on a page
abbrev pub right_of : Option OpenView → ℕ → Option Want
right_of None page = None
right_of (Some lent) page = right_of_taken (taken_at lent.taken page)

-- an open lease has taken the page
abbrev pub has_taken : Option OpenView → ℕ → Bool
has_taken lease page = is_some (right_of lease page)

-- the open lease, once it was given the right on the page at this count, and found these edges
abbrev pub given_more : Option OpenView → ℕ → Want → ℕ → List Edge → Option OpenView
given_more None page want count found = None
given_more (Some lent) page want count found =
    Some (record {
      stop = lent.stop;
      inputs = lent.inputs;
      taken = slice_set lent.taken page (Some (taking (taken_at lent.taken page) want count));
      edges = lent.edges ++ found;
    })

-- the right stands against the asked one
abbrev pub stands_against : Option Want → Want → Bool
stands_against None asked = false
stands_against (Some Write) asked = true
stands_against (Some Read) Read = false
stands_against (Some Read) Write = true

-- another hart's open lease has a right on the page that stands against the asked one
abbrev pub IsHolder : List (Option OpenView) → ℕ → ℕ → Want → ℕ → Type 0
IsHolder leases hart page want other = (other ≢ hart) × (stands_against (right_of (open_at leases other) page) want ≡ true)
