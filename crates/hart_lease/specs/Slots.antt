-- The pages of a lease.
use Rattle.std.specs.Prelude.{◌≡◌, ◌≤◌, ◌<◌, ℕ, List, length, map, replicate, slice_index_or, Bool, true, false, Option, Some, None}
use Rattle.ft_types.specs.declared.names.Want.{Want}
use Rattle.ft_types.specs.declared.names.Want.TheVariants.{Read, Write}
use Rattle.ft_types.specs.declared.names.TheConstants.{PAGE_LIMIT}
use Rattle.rv32_hart.specs.Ram.{Ram}
use Rattle.hart_lease.specs.declared.lease_pages.Slot.{Slot}
use Rattle.hart_lease.specs.declared.lease_pages.Slot.TheVariants.{Missing, Readable, Writable}

-- what the lease has of a page
abbrev pub slot_at : List Slot → ℕ → Slot
slot_at slots page = slice_index_or slots page Missing

-- the right that it came with
abbrev pub want_of : Slot → Option Want
want_of Missing = None
want_of (Readable page) = Some Read
want_of (Writable page) = Some Write

abbrev pub is_readable : Slot → Bool
is_readable Missing = false
is_readable (Readable page) = true
is_readable (Writable page) = true

abbrev pub is_writable : Slot → Bool
is_writable Missing = false
is_writable (Readable page) = false
is_writable (Writable page) = true

-- what is shared of a page that may be written
abbrev pub part_of : Slot → Option (List ℕ)
part_of Missing = None
part_of (Readable page) = None
part_of (Writable page) = Some page

-- a page that the lease lacks stands as zeros, which no step sees
unfoldable pub zeros : List ℕ
zeros = replicate 4096 0

abbrev pub present_bytes : Slot → List ℕ
present_bytes Missing = zeros
present_bytes (Readable page) = page
present_bytes (Writable page) = page

-- RAM as the lease's hart may use it
abbrev pub ram_of : List Slot → Ram
ram_of slots = record { contents = map present_bytes slots; readable = map is_readable slots; writable = map is_writable slots }

-- at most PAGE_LIMIT pages, each of 4,096 bytes
pub record AreSlots (slots : List Slot) : Type 0 where
  pub pages : length slots ≤ PAGE_LIMIT
  pub bytes : (page : ℕ) → page < length slots → length (present_bytes (slot_at slots page)) ≡ 4096

-- the page as it was lent, from what the slot has and, where it is writable, from the copy that was kept
abbrev pub base_of : Slot → Option (List ℕ) → Option (List ℕ)
base_of Missing kept = None
base_of (Readable page) kept = Some page
base_of (Writable page) kept = kept
