-- When a lease took a page, and with which right.
use Rattle.std.specs.Prelude.{◌≡◌, ◌≢◌, ℕ, List, Option, Some, None, slice_index_or, unwrap_or}
use Rattle.ft_types.specs.declared.names.Want.{Want}
use Rattle.ft_types.specs.declared.names.Want.TheVariants.{Read, Write}
use Rattle.hart_lease.specs.declared.taken.Taken.{Taken}

-- what a lease took of a page
abbrev pub taken_at : List (Option Taken) → ℕ → Option Taken
taken_at taken page = slice_index_or taken page None

abbrev pub right_written : Option ℕ → Want
right_written None = Read
right_written (Some count) = Write

-- the right that it has so
abbrev pub right_of_taken : Option Taken → Option Want
right_of_taken None = None
right_of_taken (Some taken) = Some (right_written taken.write_at)

-- the counts once it is given the page again: those that were there stay
abbrev pub read_first : Option Taken → ℕ → ℕ
read_first None count = count
read_first (Some taken) count = taken.read_at

abbrev pub written_first : Option Taken → Option ℕ
written_first None = None
written_first (Some taken) = taken.write_at

abbrev pub written_by : Want → Option ℕ → ℕ → Option ℕ
written_by Read written count = written
written_by Write written count = Some (unwrap_or written count)

abbrev pub taking : Option Taken → Want → ℕ → Taken
taking held want count = record { read_at = read_first held count; write_at = written_by want (written_first held) count }

-- each page that was taken to write is kept as it was lent
abbrev pub HaveBases : List (Option Taken) → List (Option (List ℕ)) → Type 0
HaveBases taken bases = (page : ℕ) → right_of_taken (taken_at taken page) ≡ Some Write → slice_index_or bases page None ≢ None
