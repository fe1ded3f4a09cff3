-- Why events are refused, and what a refused one leaves.
use Rattle.std.specs.Prelude.{ℕ, ◌≡◌, ◌≢◌, ◌≤◌, ◌⊎◌, ◌∷◌, [], List, true, false, length, map, Some, None, All}
use Rattle.std.specs.List.{Any}
use Rattle.page_book.specs.declared.answers.BookFault.{BookFault}
use Rattle.page_book.specs.declared.answers.BookFault.TheVariants.{Memory as NoBookMemory}
use Rattle.closed_cut.specs.Position.{IsPosition}
use Rattle.ft_types.specs.declared.position.Position.{Position}
use Rattle.log_join.specs.Stores.{StoreView}
use Rattle.ack_core.specs.declared.board.AckFault.{AckFault}
use Rattle.ack_core.specs.declared.board.AckFault.TheVariants.{OtherTerm}
use Rattle.go_live.specs.declared.fault.LiveFault.{LiveFault}
use Rattle.go_live.specs.declared.fault.LiveFault.TheVariants.{TooFewStores, TermNotNew, Replay, Memory as NoLiveMemory}
use Rattle.go_live.specs.Quorums.{AreEnough, IsOld}
use Rattle.scripts.specs.declared.event.Event.{Event}
use Rattle.scripts.specs.declared.event.Event.TheVariants as on
use Rattle.failover_world.specs.declared.fault.WorldFault.{WorldFault}
use Rattle.failover_world.specs.declared.fault.WorldFault.TheVariants.{NoPrimary, NoKeeper, NoFrame, NotStopped, Step, Live, Ack, Memory}
use Rattle.book_modes.specs.Recordings.{HasRoomed}
use Rattle.lease_rounds.specs.Steps.{IsUnmoved, RefusesStep}
use Rattle.primary.specs.Gating.{IsAsItWas}
use Rattle.failover_world.specs.Worlds.{WorldView, store_at, term_of}
use Rattle.failover_world.specs.Happenings.{stores_of}

-- the event is one that only a running primary can do
abbrev pub NeedsPrimary : Event → Type 0
NeedsPrimary (on.Step hart) = Unit {0}
NeedsPrimary (on.Offer hart input) = Unit {0}
NeedsPrimary on.Seal = Unit {0}
NeedsPrimary on.Release = Unit {0}
NeedsPrimary on.Stop = Unit {0}
NeedsPrimary _ = ⊥

-- the keepers that the event names
abbrev pub keepers_in : Event → List ℕ
keepers_in (on.Deliver keeper frame) = keeper ∷ []
keepers_in (on.Join keeper other) = keeper ∷ other ∷ []
keepers_in (on.Acknowledge keeper) = keeper ∷ []
keepers_in (on.Lose keeper) = keeper ∷ []
keepers_in (on.Grant term keepers) = keepers.items
keepers_in _ = []

-- each keeper that the event names has a store
abbrev pub AreThere : WorldView → Event → Type 0
AreThere v event = All (λ keeper. store_at v.stores keeper ≢ None) (keepers_in event)

abbrev pub LacksFrame : WorldView → Event → Type 0
LacksFrame v (on.Deliver keeper frame) = length v.sent ≤ frame
LacksFrame v _ = ⊥

abbrev pub IsGrant : Event → Type 0
IsGrant (on.Grant term keepers) = Unit {0}
IsGrant _ = ⊥

abbrev pub CannotStep : WorldView → Event → BookFault → Type 0
CannotStep v (on.Step hart) fault = (fault ≢ NoBookMemory) × RefusesStep v.primary.book hart fault
CannotStep v (on.Offer hart input) fault = ⊥
CannotStep v _ fault = ⊥

-- the keeper's position is of another term than the one granted last; it is never lower than one that was acknowledged
pub record CannotAcknowledge (v : WorldView) (keeper : ℕ) (fault : AckFault) : Type 0 where
  pub store : StoreView
  pub there : store_at v.stores keeper ≡ Some store
  pub position : Position
  pub is_position : IsPosition store position
  pub cause : fault ≡ OtherTerm
  pub other_term : position.term ≢ term_of v

abbrev pub IsNotAcknowledged : WorldView → Event → AckFault → Type 0
IsNotAcknowledged v (on.Acknowledge keeper) fault = CannotAcknowledge v keeper fault
IsNotAcknowledged v _ fault = ⊥

-- the stores are of too few keepers, or the term is not new; no other fault of going live comes
abbrev pub CannotGoLive : WorldView → ℕ → List ℕ → LiveFault → Type 0
CannotGoLive v term named TooFewStores = AreEnough v.keepers v.need (map (λ s. s.0) (stores_of v.stores named)) → ⊥
CannotGoLive v term named TermNotNew =
    AreEnough v.keepers v.need (map (λ s. s.0) (stores_of v.stores named)) × ((term ≤ term_of v) ⊎ IsOld (map (λ s. s.1) (stores_of v.stores named)) term)
CannotGoLive v term named (Replay fault) = ⊥
CannotGoLive v term named NoLiveMemory = ⊥

abbrev pub IsNotGranted : WorldView → Event → LiveFault → Type 0
IsNotGranted v (on.Grant term keepers) fault = CannotGoLive v term keepers.items fault
IsNotGranted v _ fault = ⊥

-- why a grant is refused
abbrev pub RefusesGrant : WorldView → ℕ → List ℕ → WorldFault → Type 0
RefusesGrant v term named NoKeeper = Any (λ keeper. store_at v.stores keeper ≡ None) named
RefusesGrant v term named NotStopped = All (λ keeper. store_at v.stores keeper ≢ None) named × (v.runs ≡ true)
RefusesGrant v term named (Live fault) = All (λ keeper. store_at v.stores keeper ≢ None) named × (v.runs ≡ false) × CannotGoLive v term named fault
RefusesGrant v term named Memory =
    All (λ keeper. store_at v.stores keeper ≢ None) named × (v.runs ≡ false) × ((fault : LiveFault) → CannotGoLive v term named fault → ⊥)
RefusesGrant v term named _ = ⊥

-- the event makes something grow: a book, a frame, a store, what went out
abbrev pub Grows : Event → Type 0
Grows on.Stop = ⊥
Grows (on.Lose keeper) = ⊥
Grows (on.Acknowledge keeper) = ⊥
Grows _ = Unit {0}

-- memory may be refused where something grows and no other fault is due
pub record MayLackMemory (v : WorldView) (event : Event) : Type 0 where
  pub grows : Grows event
  pub runs : NeedsPrimary event → v.runs ≡ true
  pub there : AreThere v event
  pub frame : LacksFrame v event → ⊥
  pub quiet : IsGrant event → v.runs ≡ false
  pub steps : (fault : BookFault) → CannotStep v event fault → ⊥
  pub lives : (fault : LiveFault) → IsNotGranted v event fault → ⊥

-- why the event is refused
abbrev pub Refuses : WorldView → Event → WorldFault → Type 0
Refuses v event NoPrimary = NeedsPrimary event × (v.runs ≡ false)
Refuses v event NoKeeper = Any (λ keeper. store_at v.stores keeper ≡ None) (keepers_in event)
Refuses v event NoFrame = AreThere v event × LacksFrame v event
Refuses v event NotStopped = AreThere v event × IsGrant event × (v.runs ≡ true)
Refuses v event (Step fault) = (v.runs ≡ true) × CannotStep v event fault
Refuses v event (Live fault) = AreThere v event × (v.runs ≡ false) × IsNotGranted v event fault
Refuses v event (Ack fault) = IsNotAcknowledged v event fault
Refuses v event Memory = MayLackMemory v event

-- ---- what is left

-- a step that was not taken: page rights may be others, and what the hart's next step is given is due now, where it waited
pub record IsNotStepped (hart : ℕ) (v w : WorldView) : Type 0 where
  pub book : IsUnmoved hart v.primary.book w.primary.book
  pub rest : w ≡ record v { primary = record v.primary { book = w.primary.book } }

-- a release that let nothing go, and noted nothing
pub record IsNotReleased (v w : WorldView) : Type 0 where
  pub gate : IsAsItWas v.gate w.gate
  pub room : HasRoomed v.primary.book.mode w.primary.book.mode
  pub rest : w ≡ record v { primary = record v.primary { book = record v.primary.book { mode = w.primary.book.mode } }; gate = w.gate }

-- nothing happened
abbrev pub IsLeft : WorldView → Event → WorldView → Type 0
IsLeft v (on.Step hart) w = (w ≡ v) ⊎ IsNotStepped hart v w
IsLeft v on.Release w = (w ≡ v) ⊎ IsNotReleased v w
IsLeft v _ w = w ≡ v
