-- What each event does to the world.
use Rattle.std.specs.Prelude.{ℕ, ◌≡◌, ◌≢◌, ◌<◌, ◌++◌, ◌∷◌, ◌==◌, [], List, true, false, length, map, slice_get, slice_set, Option, Some, None, All, if◌then◌else◌}
use Rattle.std.specs.List.{list_any, flat_map, enumerate_from}
use Rattle.ft_types.specs.declared.names.TheConstants.{HART_LIMIT}
use Rattle.input_log.specs.declared.Input.{Input}
use Rattle.guest_image.specs.Image.{guest_of}
use Rattle.book_modes.specs.Recordings.{IsOffered}
use Rattle.fragment_codec.specs.declared.frame.Frame.{Frame}
use Rattle.fragment_codec.specs.declared.frame.Frame.TheVariants.{Opening}
use Rattle.log_pieces.specs.Pieces.{IsCut, book_log}
use Rattle.log_join.specs.Stores.{StoreView, IsJoin, alone}
use Rattle.closed_cut.specs.Position.{IsPosition}
use Rattle.ft_types.specs.declared.position.Position.{Position}
use Rattle.output_gate.specs.Gates.{line_of, held_outputs, after_release}
use Rattle.output_gate.specs.Orders.{ArePassedBelow}
use Rattle.term_gate.specs.TermGates.{TermGateView, AreAcked}
use Rattle.go_live.specs.Beginnings.{GoesLive, BeginsTerm}
use Rattle.scripts.specs.declared.event.Event.{Event}
use Rattle.scripts.specs.declared.event.Event.TheVariants as on
use Rattle.primary.specs.declared.granted.Primary.{Primary}
use Rattle.lease_rounds.specs.Steps.{HasStepped, HoldsNothing}
use Rattle.failover_world.specs.Worlds.{WorldView, store_at, term_of}
use Rattle.primary.specs.Gating.{AreAllOffered, OffersMore, released_in}
use Rattle.primary.specs.Noting.{NotesAll}

-- the primary's hart took one step with what was due, and keeps no right to a page
pub record Steps (v : WorldView) (hart : ℕ) (w : WorldView) : Type 0 where
  pub runs : v.runs ≡ true
  pub step : HasStepped hart v.primary.book w.primary.book
  pub rights : HoldsNothing w.primary.book hart
  pub rest : w ≡ record v { primary = record v.primary { book = w.primary.book } }

-- the input waits behind the others
pub record Offers (v : WorldView) (hart : ℕ) (input : Input) (w : WorldView) : Type 0 where
  pub runs : v.runs ≡ true
  pub offered : IsOffered v.primary.book.mode hart 0 input w.primary.book.mode
  pub rest : w ≡ record v { primary = record v.primary { book = record v.primary.book { mode = w.primary.book.mode } } }

-- pieces up to the settled counts went out
pub record Seals (v : WorldView) (w : WorldView) : Type 0 where
  pub runs : v.runs ≡ true
  pub frames : List Frame
  pub cut : IsCut (book_log (guest_of v.image) (term_of v) v.primary.book) v.image.harts v.primary.sealed frames w.primary.sealed
  pub rest : w ≡ record v { primary = record v.primary { sealed = w.primary.sealed }; sent = v.sent ++ frames }

-- a frame that was sent came to the keeper
pub record Delivers (v : WorldView) (keeper number : ℕ) (w : WorldView) : Type 0 where
  pub store : StoreView
  pub there : store_at v.stores keeper ≡ Some store
  pub frame : Frame
  pub sent : slice_get v.sent number ≡ Some frame
  pub joined : StoreView
  pub join : IsJoin store (alone frame) joined
  pub rest : w ≡ record v { stores = slice_set v.stores keeper (Some joined) }

-- the keeper joined the other's store
pub record Joins (v : WorldView) (keeper other : ℕ) (w : WorldView) : Type 0 where
  pub store : StoreView
  pub there : store_at v.stores keeper ≡ Some store
  pub held : StoreView
  pub at_other : store_at v.stores other ≡ Some held
  pub joined : StoreView
  pub join : IsJoin store held joined
  pub rest : w ≡ record v { stores = slice_set v.stores keeper (Some joined) }

-- the keeper acknowledged its store's position, which is of the live term: a count for each hart
pub record Acknowledges (v : WorldView) (keeper : ℕ) (w : WorldView) : Type 0 where
  pub store : StoreView
  pub there : store_at v.stores keeper ≡ Some store
  pub position : Position
  pub is_position : IsPosition store position
  pub harts : length position.counts ≡ v.image.harts
  pub term : position.term ≡ term_of v
  pub rest : w ≡ record v { gate = record v.gate { acked = slice_set v.gate.acked keeper position.counts } }

-- All outputs of the primary's machine were offered, and those went out that waited and whose step enough keepers have
-- acknowledged. Then it was noted that they did.
pub record Releases (v : WorldView) (w : WorldView) : Type 0 where
  pub runs : v.runs ≡ true
  pub offered : TermGateView
  pub more : OffersMore v.gate offered
  pub all : AreAllOffered offered.gate v.primary.book.machine
  pub passed : ArePassedBelow offered.gate
  pub acked : AreAcked v.gate w.gate.gate.noted
  pub lines : (hart : ℕ) → hart < HART_LIMIT → line_of w.gate.gate hart ≡ after_release v.need w.gate.gate.noted (line_of offered.gate hart)
  pub gate : w.gate ≡ record v.gate { gate = record v.gate.gate { noted = w.gate.gate.noted; lines = w.gate.gate.lines } }
  pub noted : NotesAll (held_outputs v.need w.gate.gate.noted offered.gate.lines) v.primary.book w.primary.book
  pub rest : w ≡ record v {
    primary = record v.primary { book = w.primary.book };
    gate = w.gate;
    released = v.released ++ released_in (term_of v) (held_outputs v.need w.gate.gate.noted offered.gate.lines);
  }

-- the primary stopped
pub record Stops (v : WorldView) (w : WorldView) : Type 0 where
  pub runs : v.runs ≡ true
  pub rest : w ≡ record v { runs = false }

-- the keeper and its store are gone
pub record Loses (v : WorldView) (keeper : ℕ) (w : WorldView) : Type 0 where
  pub there : store_at v.stores keeper ≢ None
  pub rest : w ≡ record v { stores = slice_set v.stores keeper None }

-- the keeper with its store, where it has one and is named
abbrev pub if_named : List ℕ → ℕ → Option StoreView → List (ℕ × StoreView)
if_named named keeper None = []
if_named named keeper (Some store) = if list_any (λ n. n == keeper) named then (keeper, store) ∷ [] else []

-- the stores of the keepers that are named, each once
abbrev pub stores_of : List (Option StoreView) → List ℕ → List (ℕ × StoreView)
stores_of stores named = flat_map (λ s. if_named named s.0 s.1) (enumerate_from 0 stores)

-- the primary begins a later term, where the stores of these keepers lead to
pub record GoesLiveFrom (v : WorldView) (term : ℕ) (named : List ℕ) (p : Primary) (g : TermGateView) : Type 0 where
  pub later : term_of v < term
  pub live : GoesLive v.image v.keepers v.need term (map (λ s. s.0) (stores_of v.stores named)) (map (λ s. s.1) (stores_of v.stores named)) p g
  pub begins : BeginsTerm v.image term (map (λ s. s.1) (stores_of v.stores named)) p

-- a primary of a new term went live where the stores of these keepers lead to
pub record Grants (v : WorldView) (term : ℕ) (named : List ℕ) (w : WorldView) : Type 0 where
  pub quiet : v.runs ≡ false
  pub there : All (λ keeper. store_at v.stores keeper ≢ None) named
  pub live : GoesLiveFrom v term named w.primary w.gate
  pub rest : w ≡ record v {
    primary = w.primary;
    runs = true;
    stopped = v.stopped ++ v.primary ∷ [];
    sent = v.sent ++ Opening w.primary.opening ∷ [];
    gate = w.gate;
  }

abbrev pub Happens : WorldView → Event → WorldView → Type 0
Happens v (on.Step hart) w = Steps v hart w
Happens v (on.Offer hart input) w = Offers v hart input w
Happens v on.Seal w = Seals v w
Happens v (on.Deliver keeper frame) w = Delivers v keeper frame w
Happens v (on.Join keeper other) w = Joins v keeper other w
Happens v (on.Acknowledge keeper) w = Acknowledges v keeper w
Happens v on.Release w = Releases v w
Happens v on.Stop w = Stops v w
Happens v (on.Lose keeper) w = Loses v keeper w
Happens v (on.Grant term keepers) w = Grants v term keepers.items w
