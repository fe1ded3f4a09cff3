-- What holds of all that was told, of what is on disk, of what was sent, and of the words that machines were given.
use Rattle.std.specs.Prelude.{◌≡◌, ◌<◌, ◌≤◌, ◌⊎◌, ℕ, Bool, true, List, [], Contains, slice_get, Some}
use Rattle.ft_types.specs.Counts.{count_at}
use Rattle.ft_types.specs.declared.position.Position.{Position}
use Rattle.guest_image.specs.Image.{ImageContents, guest_of}
use Rattle.input_log.specs.Notes.{notes_of}
use Rattle.fragment_codec.specs.declared.frame.Frame.{Frame}
use Rattle.fragment_codec.specs.Streams.{Splits}
use Rattle.log_join.specs.Coming.{IsJoinOf}
use Rattle.log_join.specs.Families.{OfFamily}
use Rattle.log_join.specs.Stores.{StoreView}
use Rattle.closed_cut.specs.Position.{IsPosition}
use Rattle.hart_replay.specs.Images.{GuestTerm, GuestHistory, IsHistoryOf}
use Rattle.hart_replay.specs.Primaries.{IsTermOfBook}
use Rattle.fenced_theory.specs.Lists.{how_many}
use Rattle.primary.specs.Outputs.{said_at}
use Rattle.keeper_disks.specs.Disks.{Disk}
use Rattle.leading.specs.Leaders.{LeaderView}
use Rattle.requests.specs.Asking.{had}
use Rattle.asking.specs.Talks.{TalkView}
use Rattle.wire.specs.declared.answers.Answer.{Answer}
use Rattle.process_world.specs.Worlds.{Led, ProcessWorld, Leads}
use Rattle.process_world.specs.Happenings.{Comes}
use Rattle.process_world.specs.Words.{AreWords}

-- The step of the hart in the term is inside the chain of the other, up to the other's base: going down from the other by the openings of primaries one meets
-- the term, and the base of the term above it is above the step.
pub data IsInChain (w : ProcessWorld) (term hart step : ℕ) : ℕ → Type 0 where
  Here : (n : ℕ) (l : Led) → slice_get w.led n ≡ Some l → l.opening.parent ≡ term → step < count_at l.opening.base hart →
      IsInChain w term hart step l.opening.term
  Above : (n : ℕ) (l : Led) → slice_get w.led n ≡ Some l → IsInChain w term hart step l.opening.parent → IsInChain w term hart step l.opening.term

-- the step is of the position's term, or inside its chain; and below its counts
abbrev pub IsInside : ProcessWorld → ℕ → ℕ → ℕ → Position → Type 0
IsInside w term hart step p = ((p.term ≡ term) ⊎ IsInChain w term hart step p.term) × (step < count_at p.counts hart)

-- Of these keepers, who are enough, each has the step in what is on its disk for sure, whatever crash comes now, while it has its disk.
pub record IsOnDisks (w : ProcessWorld) (term hart step : ℕ) : Type 0 where
  pub by : ℕ → Bool
  pub enough : w.need ≤ how_many w.keepers by
  pub inside : (keeper : ℕ) (d : Disk) (frames : List Frame) (s : StoreView) (p : Position) → keeper < w.keepers → by keeper ≡ true →
      w.disks keeper ≡ Some d → Splits d.files.safe frames [] → IsJoinOf (guest_of w.image) frames s → IsPosition s p → IsInside w term hart step p

-- what an answer comes of: in its term or an older one this output went out
pub record WentOut (w : ProcessWorld) (a : Answer) : Type 0 where
  pub term : ℕ  -- in which it went out
  pub no_later : term ≤ a.term
  pub granted : (n : ℕ) × (l : Led) × (slice_get w.led n ≡ Some l) × (l.opening.term ≡ term)
  pub on_disks : IsOnDisks w term a.output.hart a.output.step
  -- the machine of each primary of its term or a later one has it, at its number
  pub has : (n : ℕ) (l : LeaderView) → Leads w n l → term ≤ l.primary.opening.term →
      slice_get (said_at l.primary.book.machine a.output.hart) a.output.number ≡ Some (a.output.step, a.output.word)
  -- each later term has it inside its chain, and below its base
  pub kept : (n : ℕ) (l : Led) → slice_get w.led n ≡ Some l → term < l.opening.term →
      IsInChain w term a.output.hart a.output.step l.opening.term × (a.output.step < count_at l.opening.base a.output.hart)

-- one step and one word of each hart and number, over all terms
abbrev pub IsOne : ProcessWorld → Type 0
IsOne w =
    (a b : Answer) → Contains w.told a → Contains w.told b → a.output.hart ≡ b.output.hart → a.output.number ≡ b.output.number →
    (a.output.step ≡ b.output.step) × (a.output.word ≡ b.output.word)

-- what a client heard was told
abbrev pub AreHeard : ProcessWorld → Type 0
AreHeard w =
    (c : ℕ) (t : TalkView) (number word : ℕ) → slice_get w.clients c ≡ Some t → had t.asker number ≡ Some word →
    (a : Answer) × Contains w.told a × (a.output.hart ≡ t.asker.hart) × (a.output.number ≡ number) × (a.output.word ≡ word)

-- All that was sent is of one history of the image, whose terms are those of the primaries, and of their books while they run.
pub record AreHonest (w : ProcessWorld) : Type 0 where
  pub history : GuestHistory
  pub is_history : IsHistoryOf w.image history
  pub sent : (f : Frame) → Contains w.frames f → OfFamily history f
  pub each : (n : ℕ) (l : LeaderView) → Leads w n l →
      (past : GuestTerm) × (history l.primary.opening.term ≡ Some past) × (past.opening ≡ l.primary.opening) × IsTermOfBook l.primary.book past
  pub no_other : (term : ℕ) (past : GuestTerm) → history term ≡ Some past →
      (n : ℕ) × (l : Led) × (slice_get w.led n ≡ Some l) × (l.opening.term ≡ term)

-- what a primary's book notes to be out went out, in its term or an older one
abbrev pub AreNotesOut : ProcessWorld → Type 0
AreNotesOut w =
    (n : ℕ) (l : LeaderView) (hart number : ℕ) (note : ℕ × ℕ) (said : ℕ × ℕ) → Leads w n l → Contains (notes_of l.primary.book.mode.notes hart) note →
    number < note.1 → slice_get (said_at l.primary.book.machine hart) number ≡ Some said →
    WentOut w (record { term = l.primary.opening.term; output = record { hart = hart; number = number; step = said.0; word = said.1 } })

pub record KeepsPromises (w : ProcessWorld) : Type 0 where
  pub honest : AreHonest w
  pub out : (a : Answer) → Contains w.told a → WentOut w a
  pub one : IsOne w
  pub heard : AreHeard w
  pub noted : AreNotesOut w
  pub words : AreWords w

abbrev pub Processes : Type 0
Processes = (image : ImageContents) (keepers need : ℕ) (w : ProcessWorld) → Comes image keepers need w → KeepsPromises w
