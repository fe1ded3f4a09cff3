-- A round of a primary.
use Rattle.std.specs.Prelude.{ℕ, ◌≡◌, ◌≤◌, ◌⊎◌, ◌+◌, ◌-◌, ◌^◌, ◌++◌, ◌∷◌, ◌==◌, ◌&&◌, [], List, Bool, true, not, Option, Some, None, length, min, slice_get, bit_and, if◌then◌else◌}
use Rattle.ft_types.specs.declared.names.TheConstants.{COUNT_LIMIT, LEASE_STEPS}
use Rattle.input_log.specs.declared.Input.{Input}
use Rattle.input_log.specs.Waiting.{bells_of, others_of}
use Rattle.guest_image.specs.Machine.{MachineState}
use Rattle.rv32_hart.specs.Hart.{Hart}
use Rattle.hart_lease.specs.Runs.{counts_of}
use Rattle.book_modes.specs.Recordings.{RecordingView}
use Rattle.page_book.specs.Books.{BookView}
use Rattle.lease_rounds.specs.Running.{IsIdle, GoesRoundFor, KeepsOffered}
use Rattle.lease_rounds.specs.Steps.{AreWithin}
use Rattle.primary.specs.Primaries.{GoesOn}
use Rattle.requests.specs.Queues.{QueueView, front, handed_on}
use Rattle.leading.specs.declared.inputs.Spacing.{Spacing}
use Rattle.leading.specs.declared.inputs.TheConstants.{SPACING}
use Rattle.leading.specs.Leaders.{LeaderView, queue_at}

-- ---- inputs that are handed on

-- it is not halted, and has acknowledged the word before: that bit of mip is clear
abbrev pub may_take : Hart → Bool
may_take h = not h.halted && (bit_and h.received.mip (2 ^ 11) == 0)

-- the input that the hart is handed next: the front of its queue, once it was given all words that were handed on
abbrev pub next_of : Hart → QueueView → Option Input
next_of h q = if may_take h then (if h.received.input_sequence == q.handed then front q.waiting else None) else None

-- no hart is handed an input
abbrev pub NoneIsHanded : MachineState → List QueueView → Type 0
NoneIsHanded machine queues = (hart : ℕ) (h : Hart) → slice_get machine.harts hart ≡ Some h → next_of h (queue_at queues hart) ≡ None

-- how many steps go by before the hart is given it, at the least
abbrev pub spacing_of : Spacing → ℕ
spacing_of Spacing.None = 0
spacing_of Spacing.Usual = SPACING

-- what became of the queue and the desk of a hart at this count: the input went from the one to the end of the other, to be given so many steps later
-- at the earliest, or nothing did
abbrev pub Hands : Spacing → Option Input → ℕ → ℕ → QueueView → QueueView → RecordingView → RecordingView → Type 0
Hands spacing None hart count old new b c = (new ≡ old) × (others_of c.desk hart ≡ others_of b.desk hart)
Hands spacing (Some input) hart count old new b c =
    (new ≡ handed_on old.handed old.waiting) ×
    (others_of c.desk hart ≡ others_of b.desk hart ++ record { not_before = count + spacing_of spacing; input = input } ∷ [])

-- ---- steps

-- the hart is halted, or has taken so many steps more, or has come to the greatest count
abbrev pub IsThere : ℕ → BookView RecordingView → BookView RecordingView → ℕ → Type 0
IsThere steps b c hart =
    (h : Hart) → slice_get c.machine.harts hart ≡ Some h → (h.halted ≡ true) ⊎ (min (counts_of b.machine hart + steps) (COUNT_LIMIT - 1) ≤ h.count)

-- how many steps a lease has at the most: up to where the round ends where there is one hart, which nobody waits for
abbrev pub lease_steps : ℕ → ℕ
lease_steps harts = if harts == 1 then COUNT_LIMIT else LEASE_STEPS

-- the book, with these counts as its limits
abbrev pub limited : BookView RecordingView → List ℕ → BookView RecordingView
limited b limits = record b { mode = record b.mode { limits = limits } }

-- The book goes on, each hart by so many steps and no more, unless it is halted, and nothing that was offered is lost. Up to where they
-- end its harts go round by round, in rising order, each for one lease until it is full, and are given what waits for them.
pub record HasGoneOn (steps : ℕ) (b c : BookView RecordingView) : Type 0 where
  pub on : GoesOn b c
  pub harts : length c.machine.harts ≡ length b.machine.harts
  pub idle : IsIdle c
  pub within : AreWithin c
  pub counts : (hart : ℕ) → counts_of c.machine hart ≤ counts_of b.machine hart + steps
  pub there : (hart : ℕ) → IsThere steps b c hart
  pub offered : KeepsOffered b c
  pub end : List ℕ
  pub rounds : GoesRoundFor (lease_steps (length b.machine.harts)) (limited b end) (limited c end)

-- inputs were handed on to the book, of which nothing is another but what waits for its harts, and of that no bell; and then it went on
pub record IsRound (spacing : Spacing) (steps : ℕ) (old new : LeaderView) : Type 0 where
  pub given : BookView RecordingView
  pub handed : GoesOn old.primary.book given
  pub book : given ≡ record old.primary.book { mode = record old.primary.book.mode { desk = given.mode.desk } }
  pub bells : (hart : ℕ) → bells_of given.mode.desk hart ≡ bells_of old.primary.book.mode.desk hart
  pub hands : (hart : ℕ) (h : Hart) → slice_get old.primary.book.machine.harts hart ≡ Some h →
      Hands spacing (next_of h (queue_at old.queues hart)) hart h.count (queue_at old.queues hart) (queue_at new.queues hart) old.primary.book.mode given.mode
  pub on : HasGoneOn steps given new.primary.book
