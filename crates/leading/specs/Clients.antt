-- The clients' words, and a primary that leads.
use Rattle.std.specs.Prelude.{◌≡◌, ◌+◌, ◌≤◌, ◌⊎◌, ◌==◌, ℕ, suc, List, [], ◌∷◌, ◌++◌, Option, None, Some, length, map, slice_get, if◌then◌else◌}
use Rattle.std.specs.List.{AllByRecursion}
use Rattle.input_log.specs.declared.Input.{Input}
use Rattle.input_log.specs.declared.Input.TheVariants as input
use Rattle.rv32_hart.specs.Hart.{Hart}
use Rattle.hart_lease.specs.Runs.{counts_of}
use Rattle.book_modes.specs.Recordings.{IsUnused, RecordingView}
use Rattle.page_book.specs.Books.{BookView}
use Rattle.wire.specs.declared.acknowledgements.Acknowledgement.{Acknowledgement}
use Rattle.wire.specs.declared.requests.Request.{Request}
use Rattle.wire.specs.declared.requests.Request.TheVariants.{Word}
use Rattle.requests.specs.Numbered.{Asked, AsksByNumber, Asks, GoesOnAt, HandsOn, Happening, Words, after, all_after}
use Rattle.requests.specs.Queues.{IsQueueOf}
use Rattle.requests.specs.declared.queue.Came.TheVariants.{Busy}
use Rattle.word_sequences.specs.Sequences.{machine_at, sequence_of, words_below, words_logged}
use Rattle.leading.specs.declared.heard.Heard.{Heard}
use Rattle.leading.specs.declared.heard.Heard.TheVariants as heard
use Rattle.leading.specs.declared.inputs.Spacing.{Spacing}
use Rattle.leading.specs.Leaders.{BeginBehind, LeaderView, queue_at, words_of}
use Rattle.leading.specs.Hearing.{Hears, LetsGo, LetsNothingGo, WithNoted}
use Rattle.leading.specs.Rounds.{IsRound, next_of}

-- ---- what a hart was given

-- INSEQ of the hart counts the words that the log gave it since the term began, at each cut those below it. They are the first that the book was
-- offered for it.
pub record GaveWords (b : BookView RecordingView) (hart : ℕ) : Type 0 where
  pub counted : sequence_of (slice_get b.machine.harts hart) ≡ sequence_of (slice_get b.start.harts hart) + length (words_logged b.mode.inputs hart)
  pub below : (cut : ℕ → ℕ) → counts_of b.start hart ≤ cut hart → cut hart ≤ counts_of b.machine hart →
      sequence_of ((machine_at b.mode.inputs b.start b.journal cut).harts hart) ≡
      sequence_of (slice_get b.start.harts hart) + length (words_below b.mode.inputs hart (cut hart))
  pub later : List ℕ
  pub first : words_of b hart ≡ words_logged b.mode.inputs hart ++ later

-- ---- what calls are to the words of a hart

-- A request asks for a word of the hart, or for none. Where there was no room it is as if nobody had asked.
abbrev pub asked_of : ℕ → Request → Heard → List Happening
asked_of hart (Word other word number) (heard.Came Busy) = []
asked_of hart (Word other word number) (heard.Came came) = if other == hart then Asks (record { word = word; number = number }) ∷ [] else []
asked_of hart request told = []

-- in a round the machine is handed a word, where one is next
abbrev pub handed_of : Option Input → List Happening
handed_of (Some (input.Word word)) = HandsOn ∷ []
handed_of other = []

-- The primary was called so, and this happened to the words of the hart.
pub data Calls (hart : ℕ) (first : LeaderView) : LeaderView → List Happening → Type 0 where
  NoCall : Calls hart first first []
  Hear : (old new : LeaderView) (all : List Happening) (request : Request) (told : Heard) → Calls hart first old all → Hears old request new told →
      Calls hart first new (all ++ asked_of hart request told)
  Acknowledge : (old new : LeaderView) (all : List Happening) (a : Acknowledgement) → Calls hart first old all →
      WithNoted old a (λ noted. LetsGo old noted new ⊎ LetsNothingGo old noted new) →
      new ≡ record old { primary = record old.primary { book = new.primary.book }; gate = new.gate; released = new.released } → Calls hart first new all
  Round : (old new : LeaderView) (all : List Happening) (spacing : Spacing) (steps : ℕ) (h : Hart) → Calls hart first old all →
      slice_get old.primary.book.machine.harts hart ≡ Some h → IsRound spacing steps old new →
      Calls hart first new (all ++ handed_of (next_of h (queue_at old.queues hart)))
  Seal : (old new : LeaderView) (all : List Happening) → Calls hart first old all →
      new ≡ record old { primary = record old.primary { sealed = new.primary.sealed } } → Calls hart first new all

-- ---- what holds of them

-- These are the words of the hart, since boot: its queue has them, and behind those that the hart had been given where the term began, those that were
-- handed on since are the words that the book was offered, in their order.
pub record AreWordsOf (l : LeaderView) (hart : ℕ) (words : Words) : Type 0 where
  pub queue : IsQueueOf words (queue_at l.queues hart)
  pub before : List Asked
  pub since : List Asked
  pub handed : words.handed ≡ before ++ since
  pub begun : length before ≡ sequence_of (slice_get l.primary.book.start.harts hart)
  pub offered : map (λ asked. asked.word) since ≡ words_of l.primary.book hart

-- it begins behind the words that the hart was given, and its book was offered nothing
pub record Begins (l : LeaderView) (hart : ℕ) : Type 0 where
  pub h : Hart
  pub there : slice_get l.primary.book.start.harts hart ≡ Some h
  pub behind : BeginBehind l.primary.book.start l.queues
  pub limits : List ℕ
  pub unused : IsUnused l.primary.book.mode l.primary.book.start limits

-- Whatever the calls of a primary that goes live at a machine that gave the hart so many words, what they leave of the words are the hart's.
abbrev pub WordsFollow : Type 0
WordsFollow =
    (hart : ℕ) (first now : LeaderView) (all : List Happening) (words : Words) (begins : Begins first hart) →
    begins.h.received.input_sequence ≤ length words.handed → Calls hart first now all →
    AreWordsOf now hart (all_after (after words (GoesOnAt begins.h.received.input_sequence)) all)

-- So another primary may go on at any cut: the hart was given no more words there than were handed on.
abbrev pub GivenWereHanded : Type 0
GivenWereHanded =
    (now : LeaderView) (hart : ℕ) (words : Words) (cut : ℕ → ℕ) → AreWordsOf now hart words → GaveWords now.primary.book hart →
    counts_of now.primary.book.start hart ≤ cut hart → cut hart ≤ counts_of now.primary.book.machine hart →
    sequence_of ((machine_at now.primary.book.mode.inputs now.primary.book.start now.primary.book.journal cut).harts hart) ≤ length words.handed

-- they are the clients' words of the numbers from this one on, each once and in order
abbrev pub AreFrom : (ℕ → ℕ) → ℕ → List ℕ → Type 0
AreFrom clients number [] = Unit {0}
AreFrom clients number (word ∷ words) = (word ≡ clients number) × AreFrom clients (suc number) words

-- Where each tells its number, the words that the log gave the hart since the term began are the clients' words from its INSEQ there on.
abbrev pub GivesClientsWords : Type 0
GivesClientsWords =
    (clients : ℕ → ℕ) (hart : ℕ) (first now : LeaderView) (all : List Happening) (begins : Begins first hart) → Calls hart first now all →
    AllByRecursion (AsksByNumber clients) all → GaveWords now.primary.book hart →
    AreFrom clients begins.h.received.input_sequence (words_logged now.primary.book.mode.inputs hart)
