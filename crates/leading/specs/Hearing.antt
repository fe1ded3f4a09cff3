-- What a primary hears.
use Rattle.std.specs.Prelude.{◌≡◌, ◌≤◌, ◌<◌, ◌⊎◌, ℕ, List, length, slice_index, slice_set}
use Rattle.interleaving.specs.Lists.{Each}
use Rattle.input_log.specs.declared.Input.{Input}
use Rattle.input_log.specs.declared.Input.TheVariants.{Timer as TimerInput, Word as WordInput}
use Rattle.ft_types.specs.Counts.{count_at}
use Rattle.book_modes.specs.Recordings.{HasRoomed}
use Rattle.log_pieces.specs.Pieces.{SealedView}
use Rattle.output_gate.specs.Gates.{mark_at}
use Rattle.term_gate.specs.TermGates.{TermGateView, acked_at}
use Rattle.primary.specs.Gating.{AreOffered, LetGo, IsAsItWas}
use Rattle.primary.specs.Noting.{NotesAll}
use Rattle.wire.specs.declared.acknowledgements.Acknowledgement.{Acknowledgement}
use Rattle.wire.specs.declared.answers.Answer.{Answer}
use Rattle.wire.specs.declared.requests.Request.{Request}
use Rattle.wire.specs.declared.requests.Request.TheVariants.{Timer, Word, From}
use Rattle.requests.specs.Queues.{QueueView, at_room, comes_of, with_input}
use Rattle.requests.specs.declared.queue.Came.{Came}
use Rattle.requests.specs.declared.queue.Came.TheVariants.{Taken}
use Rattle.leading.specs.declared.heard.Heard.{Heard}
use Rattle.leading.specs.declared.heard.Heard.TheVariants as heard
use Rattle.leading.specs.Telling.{IsOut, told_again}
use Rattle.leading.specs.Leaders.{LeaderView, queue_at}

-- ---- requests

-- with another queue for a hart, where it is there
abbrev pub with_queue : LeaderView → ℕ → QueueView → LeaderView
with_queue leader hart queue = record leader { queues = slice_set leader.queues hart queue }

-- the queue, once this became of an input
abbrev pub put_as : QueueView → Input → Came → QueueView
put_as queue input Taken = with_input queue input
put_as queue input came = queue

-- An input came for a hart: the hart's queue takes it or not, as it becomes of it there, which is told. Where there is no such hart, that is told.
abbrev pub Comes : LeaderView → ℕ → Input → (QueueView → Came) → LeaderView → Heard → Type 0
Comes old hart input becomes new heard.NoHart = (length old.queues ≤ hart) × (new ≡ old)
Comes old hart input becomes new (heard.Came came) =
    (hart < length old.queues) × (came ≡ becomes (queue_at old.queues hart)) ×
    (new ≡ with_queue old hart (put_as (queue_at old.queues hart) input came))
Comes old hart input becomes new (heard.Told answers) = ⊥

-- these outputs are told
abbrev pub Tells : List Answer → Heard → Type 0
Tells answers (heard.Told told) = told.items ≡ answers
Tells answers other = ⊥

-- what a request does, and what is told of it at once
abbrev pub Hears : LeaderView → Request → LeaderView → Heard → Type 0
Hears old (Timer hart) new told = Comes old hart TimerInput (λ q. at_room (length q.waiting) Taken) new told
Hears old (Word hart word number) new told = Comes old hart (WordInput word) (λ q. comes_of q number) new told
Hears old (From hart number) new told =
    Tells (told_again old.primary.opening.term old.primary.book.machine (mark_at old.gate.gate hart) old.released hart number) told × (new ≡ old)

-- ---- acknowledgements

-- it is of the gate's term, of one of its keepers and of all harts, of nothing that was not cut to be sent, and below none of what its
-- keeper acknowledged
pub record IsCounted (sealed : SealedView) (g : TermGateView) (a : Acknowledgement) : Type 0 where
  pub term : a.term ≡ g.gate.term
  pub keeper : a.keeper < g.gate.keepers
  pub harts : length a.counts ≡ g.harts
  pub sent : (hart : ℕ) → hart < g.harts → slice_index a.counts hart ≤ count_at sealed.reached hart
  pub no_lower : (hart : ℕ) → hart < g.harts → acked_at g a.keeper hart ≤ slice_index a.counts hart

-- it is what its keeper acknowledged now, where it counts, and else changes nothing
abbrev pub Notes : SealedView → TermGateView → Acknowledgement → TermGateView → Type 0
Notes sealed g a h = (IsCounted sealed g a × (h ≡ record g { acked = slice_set g.acked a.keeper a.counts })) ⊎ ((IsCounted sealed g a → ⊥) × (h ≡ g))

-- All outputs of the machine were offered at this gate, those went out that waited and whose step enough keepers acknowledged in the
-- term, and the book notes that they did.
pub record LetsGo (old : LeaderView) (noted : TermGateView) (new : LeaderView) : Type 0 where
  pub lets : LetGo old.primary.opening.term old.primary.book.machine noted old.released new.gate new.released
  pub out : Each (IsOut old.primary.book.machine new.gate.gate) lets.given
  pub notes : NotesAll lets.given old.primary.book new.primary.book

-- nothing went out and nothing is noted; more of the machine's outputs may have been offered, and room made
pub record LetsNothingGo (old : LeaderView) (noted : TermGateView) (new : LeaderView) : Type 0 where
  pub gate : IsAsItWas noted new.gate
  pub offered : AreOffered new.gate.gate old.primary.book.machine
  pub room : HasRoomed old.primary.book.mode new.primary.book.mode
  pub book : new.primary.book ≡ record old.primary.book { mode = new.primary.book.mode }
  pub released : new.released ≡ old.released

-- once the acknowledgement was noted
abbrev pub WithNoted : LeaderView → Acknowledgement → (TermGateView → Type 0) → Type 0
WithNoted old a P = (noted : TermGateView) × Notes old.primary.sealed old.gate a noted × P noted
