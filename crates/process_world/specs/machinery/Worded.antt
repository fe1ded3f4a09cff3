-- What ties the world to its clients' words. Machinery: nothing here needs to be believed.
use Rattle.std.specs.Prelude.{◌≡◌, ◌≤◌, ◌⊎◌, ◌+◌, ℕ, List, ◌++◌, None, Some, All, length, slice_get}
use Rattle.input_log.specs.Inputs.{inputs_of}
use Rattle.rv32_hart.specs.Hart.{Hart}
use Rattle.hart_lease.specs.Runs.{LeadsTo, counts_of}
use Rattle.book_modes.specs.Recordings.{RecordingView, heard_by}
use Rattle.page_book.specs.Books.{BookView}
use Rattle.requests.specs.Queues.{QueueView, words_in}
use Rattle.requests.specs.declared.queue.TheConstants.{WORD_LIMIT}
use Rattle.word_sequences.specs.Sequences.{sequence_of, words_below, words_logged}
use Rattle.wire.specs.declared.requests.Request.{Request}
use Rattle.leading.specs.Clients.{AreFrom}
use Rattle.leading.specs.Leaders.{IsHandedOn, LeaderView, queue_at, words_of}
use Rattle.process_world.specs.Worlds.{Led, led_as}
use Rattle.process_world.specs.Words.{AskByNumber}

-- no input is at a count before the start's
abbrev pub AreFromStart : BookView RecordingView → Type 0
AreFromStart b = (hart : ℕ) → All (λ x. counts_of b.start hart ≤ x.0) (inputs_of b.mode.inputs hart)

-- what is known of the words that a log gave, up to each count of its machine
pub record BookWords (asked : List Request) (b : BookView RecordingView) : Type 0 where
  pub leads : LeadsTo (heard_by b.mode) b.start b.journal b.machine
  pub from : AreFromStart b
  pub limit : (hart count : ℕ) → count ≤ counts_of b.machine hart →
      sequence_of (slice_get b.start.harts hart) + length (words_below b.mode.inputs hart count) ≤ WORD_LIMIT
  pub clients : (hart : ℕ) (clients : ℕ → ℕ) → AskByNumber asked hart clients → (count : ℕ) → count ≤ counts_of b.machine hart →
      AreFrom clients (sequence_of (slice_get b.start.harts hart)) (words_below b.mode.inputs hart count)

-- Of the words of a hart that were handed on, all but one at the most were given, in the order of the log; behind them others wait.
pub record HartWords (asked : List Request) (b : BookView RecordingView) (q : QueueView) (hart : ℕ) (h : Hart) : Type 0 where
  pub handed : IsHandedOn b hart h q
  pub few : length (words_of b hart) ≤ length (words_below b.mode.inputs hart (counts_of b.machine hart)) + 1
  pub fronts : (count : ℕ) → (rest : List ℕ) × (words_logged b.mode.inputs hart ≡ words_below b.mode.inputs hart count ++ rest)
  pub clients : (clients : ℕ → ℕ) → AskByNumber asked hart clients → AreFrom clients h.received.input_sequence (words_of b hart ++ words_in q.waiting)

-- what is known of those of a primary that runs
pub record LeaderWords (asked : List Request) (b : BookView RecordingView) (queues : List QueueView) : Type 0 where
  pub from : AreFromStart b
  pub harts : (hart : ℕ) (h : Hart) → slice_get b.start.harts hart ≡ Some h → HartWords asked b (queue_at queues hart) hart h

-- and of each that was granted
abbrev pub LedWords : List Request → Led → Type 0
LedWords asked x =
    ((l : LeaderView) × (x ≡ led_as l) × LeaderWords asked l.primary.book l.queues) ⊎ ((x.leader ≡ None) × BookWords asked x.book)

abbrev pub AreWorded : List Request → List Led → Type 0
AreWorded asked led = (n : ℕ) (x : Led) → slice_get led n ≡ Some x → LedWords asked x
