-- What ties the world to the theory of failover. Machinery: nothing here needs to be believed.
use Rattle.std.specs.Prelude.{ℕ, ◌≡◌, ◌<◌, ◌≤◌, ◌⊎◌, List, length, Contains, slice_index_or, Option, Some, None}
use Rattle.ft_types.specs.declared.names.TheConstants.{KEEPER_LIMIT}
use Rattle.ft_types.specs.Counts.{count_at}
use Rattle.ft_types.specs.Guests.{GuestParts, IsGuest}
use Rattle.interleaving.specs.Lists.{put}
use Rattle.interleaving.specs.Stored.{system_of}
use Rattle.rv32_hart.specs.Hardware.{hardware}
use Rattle.guest_image.specs.Image.{guest_of}
use Rattle.page_book.specs.Books.{BookView}
use Rattle.book_modes.specs.Recordings.{RecordingView}
use Rattle.fragment_codec.specs.declared.frame.Frame.TheVariants.{Opening}
use Rattle.fragment_codec.specs.Rules.{FragmentParts}
use Rattle.log_join.specs.Families.{Past, Family}
use Rattle.log_join.specs.Stores.{nothing}
use Rattle.hart_replay.specs.Images.{GuestTerm, GuestHistory, boot_of}
use Rattle.hart_replay.specs.Primaries.{term_of as history_of, IsTermOfBook, IsSealedTo}
use Rattle.fenced_theory.specs.Machines.{Book, IsRecorder}
use Rattle.failover_world.specs.machinery.Stopping as theory
use Rattle.book_recorder.specs.TermBooks.{IsTermBook, AreTheory}
use Rattle.lease_rounds.specs.Running.{IsIdle}
use Rattle.hart_lease.specs.Runs.{counts_of}
use Rattle.input_log.specs.Notes.{notes_of}
use Rattle.ft_types.specs.declared.output.Output.{Output}
use Rattle.output_gate.specs.Gates.{mark_at, gone_of}
use Rattle.term_gate.specs.TermGates.{acked_at}
use Rattle.go_live.specs.Histories.{MakesLonger}
use Rattle.primary.specs.declared.released.Released.{Released}
use Rattle.primary.specs.declared.granted.Primary.{Primary}
use Rattle.failover_world.specs.Worlds.{WorldView, term_of}
use Rattle.primary.specs.Gating.{AreOffered}

-- a book of a term
pub record TermBook (pages : ℕ) : Type 0 where
  pub book : BookView RecordingView
  pub is : IsTermBook pages book

-- a term with other words on it
abbrev pub retold : {A B : Type 0} → (A → B) → Past A → Past B
retold f p = record { opening = p.opening; pieces = p.pieces; told = f p.told }

abbrev pub retold_in : {A B : Type 0} → (A → B) → Option (Past A) → Option (Past B)
retold_in f None = None
retold_in f (Some p) = Some (retold f p)

-- what each term's book tells
abbrev pub history : {pages : ℕ} → Family (TermBook pages) → GuestHistory
history terms u = retold_in (λ t. history_of t.book) (terms u)

-- what went out, in the theory's words
abbrev pub theory_released : Released → theory.Released
theory_released r =
    record { term = r.term; hart = r.output.hart; number = r.output.number; output = record { step = r.output.step; word = r.output.word } }

abbrev pub quorum_of : WorldView → theory.Quorum
quorum_of v = record { keepers = v.keepers; need = v.need }

module _ (pages : ℕ) (is : AreTheory pages) where
  abbrev pub Books : Type 0
  Books = Book (system_of (hardware pages)) is.outs

  abbrev pub told_as : TermBook pages → Books
  told_as t = is.book t.book t.is

  -- the world, as the theory has it
  abbrev pub theory_world : GuestParts → WorldView → Family (TermBook pages) → (ℕ → ℕ → List (ℕ × ℕ)) → (ℕ → ℕ → ℕ) → List theory.Released →
      theory.World Books
  theory_world guest v terms notes marks released =
      record {
        now = term_of v;
        terms = λ u. retold_in told_as (terms u);
        sent = v.sent;
        stores = λ keeper. slice_index_or v.stores keeper (Some (nothing guest));
        acked = λ keeper hart. acked_at v.gate keeper hart;
        notes = notes;
        marks = marks;
        released = released;
      }

-- the term that was granted last, with these pieces of it sent, as its book tells it
abbrev pub live_term : WorldView → (ℕ → List FragmentParts) → GuestTerm
live_term v pieces = record { opening = v.primary.opening; pieces = pieces; told = history_of v.primary.book }

abbrev pub live_book : (v : WorldView) → (ℕ → List FragmentParts) → IsTermBook v.image.pages v.primary.book → Past (TermBook v.image.pages)
live_book v pieces is = record { opening = v.primary.opening; pieces = pieces; told = record { book = v.primary.book; is = is } }

-- the parts of the world fit together
pub record AreParts (v : WorldView) : Type 0 where
  pub guest : IsGuest (guest_of v.image)
  pub quorum : (0 < v.need) × (v.need ≤ v.keepers) × (v.keepers ≤ KEEPER_LIMIT)
  pub stores : length v.stores ≡ v.keepers
  pub idle : IsIdle v.primary.book
  pub within : (hart : ℕ) → counts_of v.primary.book.machine hart ≤ count_at v.primary.book.mode.limits hart
  pub harts : length v.primary.book.machine.harts ≡ v.image.harts
  pub reached : length v.primary.sealed.reached ≡ v.image.harts
  pub gate_term : v.gate.gate.term ≡ term_of v
  pub gate_keepers : v.gate.gate.keepers ≡ v.keepers
  pub gate_need : v.gate.gate.need ≡ v.need
  pub gate_harts : v.gate.harts ≡ v.image.harts
  pub acked : length v.gate.acked ≡ v.keepers
  pub offered : AreOffered v.gate.gate v.primary.book.machine

-- the family's term of a primary that stopped has its opening and is that of its book; it is before the last
pub record IsBefore {pages : ℕ} (terms : Family (TermBook pages)) (last : ℕ) (p : Primary) : Type 0 where
  pub past : Past (TermBook pages)
  pub there : terms p.opening.term ≡ Some past
  pub opening : past.opening ≡ p.opening
  pub of_book : IsTermOfBook p.book (retold (λ t. history_of t.book) past)
  pub earlier : p.opening.term < last

-- the world is one that comes in the theory, and its terms are a history
pub record IsTied (v : WorldView) : Type 0 where
  pub are_theory : AreTheory v.image.pages
  pub is_recorder : IsRecorder (system_of (hardware v.image.pages)) are_theory.outs (boot_of v.image)
  pub terms : Family (TermBook v.image.pages)
  pub notes : ℕ → ℕ → List (ℕ × ℕ)
  pub marks : ℕ → ℕ → ℕ
  pub out : List theory.Released
  pub comes : theory.Comes is_recorder.recorder (guest_of v.image) (quorum_of v)
      (theory_world v.image.pages are_theory (guest_of v.image) v terms notes marks out)
  pub went_out : (r : Released) → Contains v.released r → Contains out (theory_released r)
  pub no_more : (r : theory.Released) → Contains out r → (q : Released) × Contains v.released q × (theory_released q ≡ r)
  pub gone_out : (hart : ℕ) (o : Output) → Contains (gone_of v.gate.gate hart) o → theory.WentOut out hart o.number
  pub noted : (hart : ℕ) → notes (term_of v) hart ≡ notes_of v.primary.book.mode.notes hart
  pub noted_before : (p : Primary) → Contains v.stopped p → (hart : ℕ) → notes p.opening.term hart ≡ notes_of p.book.mode.notes hart
  pub marked : (hart : ℕ) → marks (term_of v) hart ≡ mark_at v.gate.gate hart
  pub pieces : ℕ → List FragmentParts
  pub is_book : IsTermBook v.image.pages v.primary.book
  pub there : terms (term_of v) ≡ Some (live_book v pieces is_book)
  pub of_book : IsTermOfBook v.primary.book (live_term v pieces)
  pub sealed : IsSealedTo (live_term v pieces) v.primary.sealed
  pub opened : (u : ℕ) (p : Past (TermBook v.image.pages)) → terms u ≡ Some p → Contains v.sent (Opening p.opening)
  pub longer : MakesLonger v.image (history (put terms (term_of v) None)) (term_of v) v.primary.book.start v.primary.opening
  pub before : (p : Primary) → Contains v.stopped p → IsBefore terms (term_of v) p
  pub no_other : (u : ℕ) (p : Past (TermBook v.image.pages)) → terms u ≡ Some p →
      (u ≡ term_of v) ⊎ ((q : Primary) × Contains v.stopped q × (q.opening.term ≡ u))

pub record IsWorld (v : WorldView) : Type 0 where
  pub parts : AreParts v
  pub tied : IsTied v
