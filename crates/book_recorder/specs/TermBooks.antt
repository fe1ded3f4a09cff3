-- Recording books, as the theory of failover has them.
use Rattle.std.specs.Prelude.{ℕ, ◌≡◌, ◌≤◌, ◌++◌, List, [], map, length, slice_get, Option, Some, None}
use Rattle.interleaving.specs.Machine.{at}
use Rattle.interleaving.specs.Stored.{system_of, view}
use Rattle.edge_log.specs.EdgeLog.{start_of}
use Rattle.rv32_hart.specs.Hart.{Hart}
use Rattle.rv32_hart.specs.Hardware.{hardware}
use Rattle.guest_image.specs.Image.{ImageContents}
use Rattle.guest_image.specs.Machine.{boot_machine}
use Rattle.hart_lease.specs.declared.stretch.Stretch.{Stretch}
use Rattle.hart_lease.specs.Runs.{counts_of, journal_turns}
use Rattle.book_modes.specs.Recordings.{RecordingView, heard_by, log_of}
use Rattle.page_book.specs.Books.{BookView}
use Rattle.page_book.specs.Tellings.{TellsOn}
use Rattle.hart_replay.specs.Primaries.{IsPrimary}
use Rattle.fenced_theory.specs.Recorders.{Output}
use Rattle.fenced_theory.specs.Machines.{Outs, AreTidy, Book, RunsOn}

-- what a hart has put out; nothing where it is not there
abbrev pub outputs_of : Option Hart → List Output
outputs_of None = []
outputs_of (Some h) = map (λ o. record { step = o.0; word = o.1 }) h.outputs

-- A book that records, on a machine with so many pages: its log is honest and begins at the start's counts, and the outputs that its
-- machine began with stand in the order of their steps, which are below the start's counts.
pub record IsTermBook (pages : ℕ) (b : BookView RecordingView) : Type 0 where
  pub primary : IsPrimary b
  pub many : length b.start.pages ≡ pages
  pub log_start : (hart : ℕ) → start_of b.mode.edges hart ≡ counts_of b.start hart
  pub tidy : (hart : ℕ) → AreTidy (counts_of b.start hart) (outputs_of (slice_get b.start.harts hart))

-- the second book goes on from the first: it has the first's start, more in its journal, and tells what the first tells
pub record ComesOf (b c : BookView RecordingView) : Type 0 where
  pub start : c.start ≡ b.start
  pub journal : (more : List Stretch) × (c.journal ≡ b.journal ++ more)
  pub tells : TellsOn b c

-- the book begins at the machine of the other at a cut
pub record IsRevived (pages : ℕ) (b : BookView RecordingView) (cut : ℕ → ℕ) (c : BookView RecordingView) : Type 0 where
  pub above : (hart : ℕ) → counts_of b.start hart ≤ cut hart
  pub within : (hart : ℕ) → cut hart ≤ counts_of b.machine hart
  pub start : view (hardware pages) c.start ≡
      at (system_of (hardware pages)) (view (hardware pages) b.start) (journal_turns (heard_by b.mode) b.start b.journal) cut

-- Such books are books of the theory: runs with their honest logs.
pub record AreTheory (pages : ℕ) : Type 0 where
  pub outs : Outs (system_of (hardware pages))
  pub outputs : (hart : Option Hart) → outs.outputs hart ≡ outputs_of hart
  pub book : (b : BookView RecordingView) → IsTermBook pages b → Book (system_of (hardware pages)) outs
  pub from : (b : BookView RecordingView) (is : IsTermBook pages b) → (book b is).from ≡ view (hardware pages) b.start
  pub turns : (b : BookView RecordingView) (is : IsTermBook pages b) → (book b is).turns ≡ journal_turns (heard_by b.mode) b.start b.journal
  pub log : (b : BookView RecordingView) (is : IsTermBook pages b) → (book b is).log ≡ log_of b.mode.edges (heard_by b.mode) b.start b.machine
  -- one that goes on from another does so in the theory
  pub on : (b c : BookView RecordingView) (is_b : IsTermBook pages b) (is_c : IsTermBook pages c) → ComesOf b c →
      RunsOn (system_of (hardware pages)) outs (book b is_b) (book c is_c)

-- a primary's book that begins at boot is such a book
abbrev pub BootedAreTermBooks : Type 0
BootedAreTermBooks =
    (image : ImageContents) (b : BookView RecordingView) → IsPrimary b → b.start ≡ boot_machine image →
    ((hart : ℕ) → start_of b.mode.edges hart ≡ counts_of b.start hart) → IsTermBook image.pages b

-- and so is one that goes on from such a book
abbrev pub LaterAreTermBooks : Type 0
LaterAreTermBooks = (pages : ℕ) (b c : BookView RecordingView) → IsTermBook pages b → ComesOf b c → IsPrimary c → IsTermBook pages c

-- and one that begins at the machine of such a book at a cut
abbrev pub RevivedAreTermBooks : Type 0
RevivedAreTermBooks =
    (pages : ℕ) (b c : BookView RecordingView) (cut : ℕ → ℕ) → IsTermBook pages b → IsRevived pages b cut c → IsPrimary c →
    length c.start.pages ≡ pages → ((hart : ℕ) → start_of c.mode.edges hart ≡ counts_of c.start hart) → IsTermBook pages c
