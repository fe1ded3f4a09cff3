-- What ties the world to the theory of fencing. Machinery: nothing here needs to be believed.
use Rattle.std.specs.Prelude.{ℕ, ◌≡◌, ◌≤◌, List, [], Contains, slice_get, Option, Some}
use Rattle.ft_types.specs.Counts.{count_at}
use Rattle.ft_types.specs.Guests.{GuestParts}
use Rattle.ft_types.specs.declared.output.Output.{Output}
use Rattle.input_log.specs.Notes.{notes_of}
use Rattle.interleaving.specs.Stored.{system_of}
use Rattle.rv32_hart.specs.Hardware.{hardware}
use Rattle.guest_image.specs.Image.{guest_of}
use Rattle.hart_lease.specs.Runs.{LeadsTo}
use Rattle.book_modes.specs.Recordings.{heard_by}
use Rattle.fragment_codec.specs.Rules.{FragmentParts}
use Rattle.log_join.specs.Families.{Past, Family}
use Rattle.log_join.specs.Stores.{StoreView}
use Rattle.hart_replay.specs.Images.{GuestTerm, IsHistoryOf, boot_of}
use Rattle.hart_replay.specs.Primaries.{IsTermOfBook, IsSealedTo, term_of as history_of}
use Rattle.book_recorder.specs.TermBooks.{IsTermBook, AreTheory}
use Rattle.fenced_theory.specs.Machines.{IsRecorder}
use Rattle.fenced_theory.specs.Worlds as theory
use Rattle.output_gate.specs.Gates.{mark_at, gone_of}
use Rattle.term_gate.specs.TermGates.{acked_at}
use Rattle.primary.specs.declared.granted.Primary.{Primary}
use Rattle.primary.specs.declared.released.Released.{Released}
use Rattle.primary.specs.Gating.{AreOffered}
use Rattle.keeper_disks.specs.Disks.{Disk, HasFenced}
use Rattle.keeper_disks.specs.Standing.{HasFrames, StandsOn}
use Rattle.leading.specs.Leaders.{LeaderView}
use Rattle.wire.specs.declared.acknowledgements.Acknowledgement.{Acknowledgement}
use Rattle.wire.specs.declared.answers.Answer.{Answer}
use Rattle.failover_world.specs.machinery.Tied.{TermBook, Books, retold_in, history, told_as, theory_released}
use Rattle.process_world.specs.Worlds.{Handed, Led, ProcessWorld, Leads}
use Rattle.process_world.specs.Promises.{AreHeard}

abbrev pub quorum_of : ProcessWorld → theory.Quorum
quorum_of w = record { keepers = w.keepers; need = w.need }

-- the primary's term, with these pieces of it sent
abbrev pub past_of : {pages : ℕ} (p : Primary) → (ℕ → List FragmentParts) → IsTermBook pages p.book → Past (TermBook pages)
past_of p pieces is = record { opening = p.opening; pieces = pieces; told = record { book = p.book; is = is } }

-- as its book tells it
abbrev pub told_by : Primary → (ℕ → List FragmentParts) → GuestTerm
told_by p pieces = record { opening = p.opening; pieces = pieces; told = history_of p.book }

-- the family's term of the primary's number is that of its book, and its pieces have come to its marks
pub record IsIn {pages : ℕ} (terms : Family (TermBook pages)) (p : Primary) : Type 0 where
  pub pieces : ℕ → List FragmentParts
  pub is_book : IsTermBook pages p.book
  pub there : terms p.opening.term ≡ Some (past_of p pieces is_book)
  pub of_book : IsTermOfBook p.book (told_by p pieces)
  pub sealed : IsSealedTo (told_by p pieces) p.sealed

-- the family's terms are those that were granted, each once, with its opening and its book
pub record AreGranted {pages : ℕ} (terms : Family (TermBook pages)) (led : List Led) : Type 0 where
  pub each : (n : ℕ) (l : Led) → slice_get led n ≡ Some l →
      (p : Past (TermBook pages)) × (terms l.opening.term ≡ Some p) × (p.opening ≡ l.opening) × (p.told.book ≡ l.book)
  pub apart : (n m : ℕ) (l k : Led) → slice_get led n ≡ Some l → slice_get led m ≡ Some k → l.opening.term ≡ k.opening.term → n ≡ m
  pub no_other : (u : ℕ) (p : Past (TermBook pages)) → terms u ≡ Some p → (n : ℕ) × (l : Led) × (slice_get led n ≡ Some l) × (l.opening.term ≡ u)

-- what a primary knows and did, in the theory's world
pub record IsLeader {Book : Type 0} {pages : ℕ} (w : theory.World Book) (terms : Family (TermBook pages)) (guest : GuestParts) (keepers need : ℕ) (l : LeaderView) : Type 0 where
  pub within : IsIn terms l.primary
  pub of_guest : l.primary.opening.guest ≡ guest
  pub of_keepers : l.gate.gate.keepers ≡ keepers
  pub of_need : l.gate.gate.need ≡ need
  pub of_term : l.gate.gate.term ≡ l.primary.opening.term
  pub offered : AreOffered l.gate.gate l.primary.book.machine
  pub led : LeadsTo (heard_by l.primary.book.mode) l.primary.book.start l.primary.book.journal l.primary.book.machine
  pub acked : (keeper hart : ℕ) → acked_at l.gate keeper hart ≤ w.acked l.primary.opening.term keeper hart
  pub released : (r : Released) → Contains l.released r → Contains w.released (theory_released r) × (r.term ≡ l.primary.opening.term)
  pub gone : (hart : ℕ) (o : Output) → Contains (gone_of l.gate.gate hart) o → theory.WentOutBy w.released l.primary.opening.term hart o.number
  pub noted : (hart : ℕ) → w.notes l.primary.opening.term hart ≡ notes_of l.primary.book.mode.notes hart
  pub marked : (hart : ℕ) → w.marks l.primary.opening.term hart ≡ mark_at l.gate.gate hart

-- what a keeper handed over to a term it gave to it, and gives nothing else to it
pub record IsGiven {Book : Type 0} (w : theory.World Book) (guest : GuestParts) (disks : ℕ → Option Disk) (h : Handed) : Type 0 where
  pub store : StoreView
  pub given : w.given h.term h.keeper ≡ Some store
  pub frames : HasFrames guest w.sent h.bytes [] store
  pub once : (d : Disk) → disks h.keeper ≡ Some d → (h.term ≤ d.files.fence) × (d.hand ≡ HasFenced h.term → ⊥)

-- an output that went out in no later term than the answer's
pub record IsTold (released : List theory.Released) (a : Answer) : Type 0 where
  pub out : theory.Released
  pub has : Contains released out
  pub of_hart : out.hart ≡ a.output.hart
  pub of_number : out.number ≡ a.output.number
  pub of_step : out.output.step ≡ a.output.step
  pub of_word : out.output.word ≡ a.output.word
  pub no_later : out.term ≤ a.term

-- the world is one that comes in the theory, and its terms are a history
pub record IsTied (w : ProcessWorld) : Type 0 where
  pub are_theory : AreTheory w.image.pages
  pub is_recorder : IsRecorder (system_of (hardware w.image.pages)) are_theory.outs (boot_of w.image)
  pub terms : Family (TermBook w.image.pages)
  pub world : theory.World (Books w.image.pages are_theory)
  pub comes : theory.Comes is_recorder.recorder (guest_of w.image) (quorum_of w) world
  pub terms_are : world.terms ≡ (λ u. retold_in (told_as w.image.pages are_theory) (terms u))
  pub is_history : IsHistoryOf w.image (history terms)
  pub granted : AreGranted terms w.led
  pub leaders : (n : ℕ) (l : LeaderView) → Leads w n l → IsLeader world terms (guest_of w.image) w.keepers w.need l
  pub sent : world.sent ≡ w.frames
  pub standing : (keeper : ℕ) (d : Disk) → w.disks keeper ≡ Some d → StandsOn (guest_of w.image) world keeper d
  pub said : (a : Acknowledgement) → Contains w.said a → (hart : ℕ) → count_at a.counts hart ≤ world.acked a.term a.keeper hart
  -- nothing is acknowledged but what was said
  pub only_said : (term keeper hart : ℕ) → ((a : Acknowledgement) → Contains w.said a → a.term ≡ term → a.keeper ≡ keeper → ⊥) →
      world.acked term keeper hart ≡ 0
  pub handed : (h : Handed) → Contains w.handed h → IsGiven world (guest_of w.image) w.disks h
  pub told : (a : Answer) → Contains w.told a → IsTold world.released a
  pub heard : AreHeard w
