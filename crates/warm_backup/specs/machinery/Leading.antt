-- A book of a leg that is led on.
use Rattle.std.specs.Prelude.{◌≡◌, ◌<◌, ℕ, length}
use Rattle.book_modes.specs.declared.mode.Leg.{Leg}
use Rattle.edge_log.specs.EdgeLog.{edges_of}
use Rattle.hart_lease.specs.Runs.{BeginsSchedule, LeadsTo, heard_in}
use Rattle.page_book.specs.Books.{BookView}
use Rattle.lease_rounds.specs.Leading.{IsIdle}
use Rattle.lease_rounds.specs.machinery.StepsLeft.{steps_left}
use Rattle.hart_replay.specs.Leading.{IsHeld}

-- the book is the first one later: it began so, obeys the same leg, and no lease is open
pub record IsLater (b c : BookView Leg) : Type 0 where
  pub start : c.start ≡ b.start
  pub mode : c.mode ≡ b.mode
  pub idle : IsIdle c
  pub harts : length c.machine.harts ≡ length b.machine.harts

-- none of the book's harts can go on
abbrev pub AreHeld : BookView Leg → Type 0
AreHeld b = (hart : ℕ) → hart < length b.machine.harts → IsHeld b hart

-- the book's journal leads to its machine, and begins a schedule of its leg
pub record IsLed (b : BookView Leg) : Type 0 where
  pub run : LeadsTo (heard_in b.mode.inputs) b.start b.journal b.machine
  pub begins : BeginsSchedule (edges_of b.mode.edges) b.mode.ends b.start b.journal

-- and has fewer steps to go
pub record IsNearer (b c : BookView Leg) : Type 0 where
  pub fewer : steps_left b.mode.ends c.machine.harts < steps_left b.mode.ends b.machine.harts
