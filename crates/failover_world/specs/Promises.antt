-- What holds of the frames that were sent, and of the outputs that went out.
use Rattle.std.specs.Prelude.{ℕ, ◌≡◌, ◌<◌, ◌≤◌, ◌⊎◌, true, Bool, Contains, slice_get, Some}
use Rattle.ft_types.specs.Counts.{count_at}
use Rattle.input_log.specs.Notes.{notes_of}
use Rattle.fragment_codec.specs.declared.frame.Frame.{Frame}
use Rattle.fragment_codec.specs.declared.frame.Frame.TheVariants.{Opening}
use Rattle.fragment_codec.specs.Rules.{OpeningParts}
use Rattle.log_join.specs.Families.{OfFamily, HonestStore}
use Rattle.log_join.specs.Stores.{StoreView}
use Rattle.closed_cut.specs.Position.{IsPosition}
use Rattle.ft_types.specs.declared.position.Position.{Position}
use Rattle.hart_replay.specs.Images.{GuestTerm, GuestHistory, IsHistoryOf}
use Rattle.hart_replay.specs.Primaries.{IsTermOfBook}
use Rattle.fenced_theory.specs.Lists.{how_many}
use Rattle.term_gate.specs.TermGates.{acked_at}
use Rattle.primary.specs.declared.granted.Primary.{Primary}
use Rattle.primary.specs.declared.released.Released.{Released}
use Rattle.failover_world.specs.Worlds.{WorldView, store_at, term_of}
use Rattle.primary.specs.Outputs.{said_at}

-- the history's term of the primary's number has its opening, and is that of its book
pub record IsItsTerm (history : GuestHistory) (p : Primary) : Type 0 where
  pub past : GuestTerm
  pub there : history p.opening.term ≡ Some past
  pub opening : past.opening ≡ p.opening
  pub of_book : IsTermOfBook p.book past

-- What was sent, and what keepers hold, are of one history of the image, whose last term is of the primary's book; its other terms
-- are of the books of the primaries before it.
pub record AreHonest (w : WorldView) : Type 0 where
  pub history : GuestHistory
  pub is_history : IsHistoryOf w.image history
  pub sent : (f : Frame) → Contains w.sent f → OfFamily history f
  pub stores : (keeper : ℕ) (s : StoreView) → store_at w.stores keeper ≡ Some s → HonestStore history s
  pub last : IsItsTerm history w.primary
  pub before : (p : Primary) → Contains w.stopped p → IsItsTerm history p × (p.opening.term < term_of w)
  pub no_other : (term : ℕ) (past : GuestTerm) → history term ≡ Some past →
      (term ≡ term_of w) ⊎ ((p : Primary) × Contains w.stopped p × (p.opening.term ≡ term))

-- The step of the hart in the term is inside the chain of the other, up to the other's base: going down from the other by the
-- openings that were sent one meets the term, and the base of the term above it is above the step.
pub data IsInChain (w : WorldView) (term hart step : ℕ) : ℕ → Type 0 where
  Here : {other : ℕ} (o : OpeningParts) → Contains w.sent (Opening o) → o.term ≡ other → o.parent ≡ term → step < count_at o.base hart →
      IsInChain w term hart step other
  Above : {other : ℕ} (o : OpeningParts) → Contains w.sent (Opening o) → o.term ≡ other → IsInChain w term hart step o.parent →
      IsInChain w term hart step other

-- the step of the hart in the term is inside the position: of its term, or inside the chain of its term; and below its counts
abbrev pub IsInside : WorldView → Released → Position → Type 0
IsInside w r p =
    ((p.term ≡ r.term) ⊎ IsInChain w r.term r.output.hart r.output.step p.term) × (r.output.step < count_at p.counts r.output.hart)

-- `need` keepers have the output inside the position of whatever store they have, while they have one
pub record IsHeld (w : WorldView) (r : Released) : Type 0 where
  pub by : ℕ → Bool
  pub enough : w.need ≤ how_many w.keepers by
  pub inside : (keeper : ℕ) (store : StoreView) (p : Position) → keeper < w.keepers → by keeper ≡ true → store_at w.stores keeper ≡ Some store →
      IsPosition store p → IsInside w r p

-- what went out has one step and word for each hart and number
abbrev pub IsOne : WorldView → Type 0
IsOne w =
    (r s : Released) → Contains w.released r → Contains w.released s → r.output.hart ≡ s.output.hart → r.output.number ≡ s.output.number →
    (r.output.step ≡ s.output.step) × (r.output.word ≡ s.output.word)

-- the machine of the term that was granted last has it, at its number
abbrev pub IsOfMachine : WorldView → Type 0
IsOfMachine w =
    (r : Released) → Contains w.released r →
    slice_get (said_at w.primary.book.machine r.output.hart) r.output.number ≡ Some (r.output.step, r.output.word)

-- each term that was granted after it has it inside its chain, and below its base
abbrev pub IsKept : WorldView → Type 0
IsKept w =
    (r : Released) (o : OpeningParts) → Contains w.released r → Contains w.sent (Opening o) → r.term < o.term →
    IsInChain w r.term r.output.hart r.output.step o.term × (r.output.step < count_at o.base r.output.hart)

-- What a keeper acknowledged in the term that was granted last is inside the position of its store, while it has one: so each keeper
-- whose acknowledgement let an output out has it.
abbrev pub AreAckedInside : WorldView → Type 0
AreAckedInside w =
    (keeper hart : ℕ) (store : StoreView) (p : Position) → store_at w.stores keeper ≡ Some store → IsPosition store p → 0 < acked_at w.gate keeper hart →
    (p.term ≡ term_of w) × (acked_at w.gate keeper hart ≤ count_at p.counts hart)

-- enough keepers hold it
abbrev pub AreHeld : WorldView → Type 0
AreHeld w = (r : Released) → Contains w.released r → IsHeld w r

-- the primary that runs, or ran last, or one before it
abbrev pub IsPrimaryOf : WorldView → Primary → Type 0
IsPrimaryOf w p = (p ≡ w.primary) ⊎ Contains w.stopped p

-- each output that a primary's book notes went out
abbrev pub AreNotesReleased : WorldView → Type 0
AreNotesReleased w =
    (p : Primary) (hart number : ℕ) (note : ℕ × ℕ) → IsPrimaryOf w p → Contains (notes_of p.book.mode.notes hart) note → number < note.1 →
    (r : Released) × Contains w.released r × (r.output.hart ≡ hart) × (r.output.number ≡ number)

-- in a term that has a note inside its chain nothing went out again that is noted there
abbrev pub NoneIsNoted : WorldView → Type 0
NoneIsNoted w =
    (r : Released) (p : Primary) (note : ℕ × ℕ) → Contains w.released r → IsPrimaryOf w p →
    Contains (notes_of p.book.mode.notes r.output.hart) note → IsInChain w p.opening.term r.output.hart note.0 r.term → note.1 ≤ r.output.number
