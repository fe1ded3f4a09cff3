-- A primary that leads: its book and its gate, the inputs that wait for its harts, and what went out.
use Rattle.std.specs.Prelude.{◌≡◌, ◌<◌, ◌≤◌, ◌+◌, ℕ, List, [], length, map, slice_get, slice_index_or, Some}
use Rattle.interleaving.specs.Lists.{Each, EachPair}
use Rattle.ft_types.specs.Counts.{count_at}
use Rattle.hart_lease.specs.Runs.{counts_of}
use Rattle.rv32_hart.specs.Hart.{Hart}
use Rattle.guest_image.specs.Machine.{MachineState}
use Rattle.book_modes.specs.Recordings.{RecordingView}
use Rattle.page_book.specs.Books.{BookView}
use Rattle.lease_rounds.specs.Running.{IsIdle, offers}
use Rattle.lease_rounds.specs.Steps.{AreWithin}
use Rattle.term_gate.specs.TermGates.{TermGateView}
use Rattle.primary.specs.declared.granted.Primary.{Primary}
use Rattle.primary.specs.declared.released.Released.{Released}
use Rattle.primary.specs.Gating.{AreOffered}
use Rattle.primary.specs.Outputs.{said_at}
use Rattle.requests.specs.Queues.{QueueView, came, words_in}
use Rattle.requests.specs.declared.queue.TheConstants.{WORD_LIMIT}

pub record LeaderView : Type 0 where
  pub primary : Primary  -- the opening of its term, its book, and how far its log is cut
  pub gate : TermGateView
  pub queues : List QueueView  -- the inputs that wait, by hart
  pub released : List Released  -- what went out, in its order

-- no queue
abbrev pub no_queue : QueueView
no_queue = record { handed = 0; waiting = [] }

abbrev pub queue_at : List QueueView → ℕ → QueueView
queue_at queues hart = slice_index_or queues hart no_queue

-- each hart's queue begins behind the words that the hart was given
abbrev pub BeginBehind : MachineState → List QueueView → Type 0
BeginBehind machine queues =
    (hart : ℕ) (h : Hart) → slice_get machine.harts hart ≡ Some h →
    queue_at queues hart ≡ record { handed = h.received.input_sequence; waiting = [] }

-- the words among all inputs that the book was offered for the hart, in their order: those that its log gives it, and those that wait there for it
abbrev pub words_of : BookView RecordingView → ℕ → List ℕ
words_of b hart = words_in (map (λ o. o.input) (offers b hart))

-- The queue counts as handed on the words that the hart had been given where the term began, and those that the book was offered for it since; and no
-- more words came than a hart is given.
pub record IsHandedOn (b : BookView RecordingView) (hart : ℕ) (h : Hart) (q : QueueView) : Type 0 where
  pub handed : q.handed ≡ h.received.input_sequence + length (words_of b hart)
  pub limit : came q ≤ WORD_LIMIT

-- so does each hart's queue
abbrev pub AreHandedOn : BookView RecordingView → List QueueView → Type 0
AreHandedOn b queues = (hart : ℕ) (h : Hart) → slice_get b.start.harts hart ≡ Some h → IsHandedOn b hart h (queue_at queues hart)

-- ---- private words

-- no hart was given more words than one is
abbrev pub AreInLimit : MachineState → Type 0
AreInLimit machine = (hart : ℕ) (h : Hart) → slice_get machine.harts hart ≡ Some h → h.received.input_sequence ≤ WORD_LIMIT

-- a hart's outputs stand in the order of their steps, and these are below its count
pub record IsTidy (count : ℕ) (said : List (ℕ × ℕ)) : Type 0 where
  pub rising : EachPair (λ a b. a.0 < b.0) said
  pub below : Each (λ a. a.0 < count) said

abbrev pub AreTidy : MachineState → Type 0
AreTidy machine = (hart : ℕ) → IsTidy (counts_of machine hart) (said_at machine hart)

-- the parts fit together
pub record IsSound (p : Primary) (g : TermGateView) (queues : List QueueView) : Type 0 where
  pub idle : IsIdle p.book
  pub within : AreWithin p.book
  pub harts : length p.book.machine.harts ≡ g.harts
  pub guest : p.opening.guest.harts ≡ g.harts
  pub reached : length p.sealed.reached ≡ g.harts
  pub behind : (hart : ℕ) → count_at p.sealed.reached hart ≤ counts_of p.book.machine hart
  pub tidy : AreTidy p.book.machine
  pub offered : AreOffered g.gate p.book.machine
  pub term : g.gate.term ≡ p.opening.term
  pub many : length queues ≡ g.harts
