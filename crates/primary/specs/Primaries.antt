-- A primary as it begins, and its book as it goes on.
use Rattle.std.specs.Prelude.{ℕ, ◌≡◌, ◌-◌, ◌++◌, List, [], replicate, None}
use Rattle.ft_types.specs.Counts.{count_at}
use Rattle.ft_types.specs.declared.names.TheConstants.{COUNT_LIMIT, HART_ROW}
use Rattle.guest_image.specs.Image.{ImageContents, guest_of}
use Rattle.guest_image.specs.Machine.{MachineState, boot_machine}
use Rattle.input_log.specs.Notes.{notes_of}
use Rattle.hart_lease.specs.declared.stretch.Stretch.{Stretch}
use Rattle.hart_lease.specs.Runs.{LeadsTo}
use Rattle.book_modes.specs.Recordings.{RecordingView, IsUnused, heard_by}
use Rattle.page_book.specs.Books.{BookView}
use Rattle.page_book.specs.Tellings.{TellsOn}
use Rattle.fragment_codec.specs.Rules.{OpeningParts}
use Rattle.log_pieces.specs.Pieces.{SealedView, mark_of}
use Rattle.hart_replay.specs.Primaries.{IsPrimary}
use Rattle.primary.specs.declared.granted.Primary.{Primary}

-- the greatest limit, for each hart
abbrev pub no_limits : ℕ → List ℕ
no_limits harts = replicate harts (COUNT_LIMIT - 1)

-- nothing is cut: each hart's first piece begins at its count
abbrev pub IsUncut : List ℕ → SealedView → Type 0
IsUncut counts seals = (seals.reached ≡ counts) × ((hart : ℕ) → mark_of seals hart ≡ record { place = 0; count = count_at counts hart })

-- the opening of the first term
abbrev pub opening_at_boot : ImageContents → OpeningParts
opening_at_boot image = record { guest = guest_of image; term = 1; parent = 0; base = replicate image.harts 0 }

-- a book that begins with the machine: no step is settled, and no lease is open
abbrev pub BeginsFrom : MachineState → BookView RecordingView → Type 0
BeginsFrom machine book = book ≡ record { start = machine; machine = machine; journal = []; leases = replicate HART_ROW None; mode = book.mode }

-- the primary of term 1, that has done nothing
pub record IsBooted (image : ImageContents) (p : Primary) : Type 0 where
  pub opening : p.opening ≡ opening_at_boot image
  pub start : p.book.start ≡ boot_machine image
  pub begins : BeginsFrom p.book.start p.book
  pub unused : IsUnused p.book.mode p.book.start (no_limits image.harts)
  pub uncut : IsUncut p.opening.base p.sealed

-- The second book goes on from the first: it has the first's start, more in its journal, tells what the first tells, and notes what it notes. Each is led
-- to its machine by its journal, and the second one's log is honest.
pub record GoesOn (b c : BookView RecordingView) : Type 0 where
  pub start : c.start ≡ b.start
  pub journal : (more : List Stretch) × (c.journal ≡ b.journal ++ more)
  pub tells : TellsOn b c
  pub notes : (hart : ℕ) → notes_of c.mode.notes hart ≡ notes_of b.mode.notes hart
  pub primary : IsPrimary c
  pub before : LeadsTo (heard_by b.mode) b.start b.journal b.machine
  pub after : LeadsTo (heard_by c.mode) c.start c.journal c.machine
