-- A primary that goes live at a pair's end.
use Rattle.std.specs.Prelude.{◌≡◌, ◌≢◌, ◌<◌, ◌-◌, ◌⊎◌, ◌∷◌, [], ℕ, List, Some, length, slice_get, sum}
use Rattle.std.specs.List.{AllByRecursion, Any, Contains}
use Rattle.ft_types.specs.declared.output.Output.{Output}
use Rattle.ft_types.specs.declared.position.Position.{Position}
use Rattle.log_join.specs.Stores.{StoreView}
use Rattle.closed_cut.specs.Position.{IsPosition}
use Rattle.guest_image.specs.Image.{ImageContents, guest_of}
use Rattle.hart_replay.specs.declared.plans.PlannedLeg.{PlannedLeg}
use Rattle.hart_replay.specs.GoingOn.{GoOnFrom}
use Rattle.hart_replay.specs.KeepingUp.{IsFaultOfStore}
use Rattle.hart_replay.specs.Laws.{ArePlanned}
use Rattle.hart_replay.specs.declared.fault.ReplayFault.{ReplayFault}
use Rattle.hart_replay.specs.declared.fault.ReplayFault.TheVariants.{OtherGuest}
use Rattle.primary.specs.Outputs.{outputs_in, said_at}
use Rattle.primary.specs.Primaries.{BeginsFrom}
use Rattle.go_live.specs.declared.live.Live.{Live}
use Rattle.go_live.specs.declared.fault.LiveFault.{LiveFault}
use Rattle.go_live.specs.declared.fault.LiveFault.TheVariants.{TooFewStores, TermNotNew}
use Rattle.go_live.specs.Faults.{IfReplay}
use Rattle.go_live.specs.Joined.{AreJoined}
use Rattle.go_live.specs.Lives.{IsAtPosition, LeadNowhere}
use Rattle.go_live.specs.Quorums.{IsOld}
use Rattle.ft_types.specs.Counts.{count_at}
use Rattle.guest_image.specs.Machine.{MachineState}
use Rattle.pair.specs.Released.{HasGoneOut}
use Rattle.pair.specs.Serving.{IsHeldOnTheWay}

-- a primary of term 2 goes on where the join of these stores leads to, with the outputs of the machine there
pub record GoesOn (image : ImageContents) (stores : List StoreView) (live : Live) : Type 0 where
  pub position : IsAtPosition image stores 2 live.book.start live.opening live.marks
  pub book : BeginsFrom live.book.start live.book
  pub outputs : live.outputs.items ≡ outputs_in live.book.start

-- the store stands at the position, and these legs are planned of it up to there
pub record IsPlannedUpTo (store : StoreView) (position : Position) (legs : List PlannedLeg) : Type 0 where
  pub is_position : IsPosition store position
  pub planned : ArePlanned store position legs

-- A machine that stood where the first of these stores leads to has gone to where their join does, with which a primary begins. So many steps were replayed for it:
-- those between the two positions, where what was planned of the first store begins what is planned of all, else all.
pub record HasReplayed (image : ImageContents) (stores : List StoreView) (live : Live) (steps : ℕ) : Type 0 where
  pub first : StoreView
  pub others : List StoreView
  pub are_stores : stores ≡ first ∷ others
  pub stood : Position
  pub had : List PlannedLeg
  pub first_planned : IsPlannedUpTo first stood had
  pub joined : StoreView
  pub are_joined : AreJoined (guest_of image) stores joined
  pub position : Position
  pub legs : List PlannedLeg
  pub all_planned : IsPlannedUpTo joined position legs
  pub begins_there : live.opening.base ≡ position.counts
  pub steps_on : GoOnFrom had legs → steps ≡ sum position.counts - sum stood.counts
  pub steps_anew : (GoOnFrom had legs → ⊥) → steps ≡ sum position.counts

-- a primary went live from the stores of all keepers, on whose way as many as are needed had each of these outputs inside a position of term 1, and so many steps were replayed for it
pub record HasGoneLive (image : ImageContents) (keepers need : ℕ) (released : List Output) (live : Live) (steps : ℕ) : Type 0 where
  pub stores : List StoreView
  pub all : length stores ≡ keepers
  pub inside : AllByRecursion (IsHeldOnTheWay stores 1 need) released
  pub goes_on : GoesOn image stores live
  pub replayed : HasReplayed image stores live steps

-- each of these outputs is the machine's, at its number
abbrev pub AreSaid : MachineState → List Output → Type 0
AreSaid machine released =
    (o : Output) → Contains released o → slice_get (said_at machine o.hart) o.number ≡ Some (o.step, o.word)

-- what is marked went out: a hart's outputs with numbers below its mark
abbrev pub AreMarksOut : List ℕ → List Output → Type 0
AreMarksOut marks released = (hart number : ℕ) → number < count_at marks hart → HasGoneOut released hart number

-- the legs of the first of the stores lead to no machine, for this reason
abbrev pub IsFaultOfFirst : ImageContents → List StoreView → ReplayFault → Type 0
IsFaultOfFirst image [] fault = ⊥
IsFaultOfFirst image (first ∷ others) fault = IsFaultOfStore image first fault

-- what the first of the stores tells leads to no machine, one of them is of another guest, or what all of them tell leads to no machine
abbrev pub IsReplayFault : ImageContents → List StoreView → ReplayFault → Type 0
IsReplayFault image stores fault =
    IsFaultOfFirst image stores fault
    ⊎ ((fault ≡ OtherGuest → Any (λ store. store.guest ≢ guest_of image) stores) × (fault ≢ OtherGuest → LeadNowhere image stores fault))

-- why no primary of term 2 goes live from the stores of all keepers, where it is not for want of memory
pub record IsRefused (image : ImageContents) (stores : List StoreView) (fault : LiveFault) : Type 0 where
  pub enough : fault ≢ TooFewStores
  pub not_new : fault ≡ TermNotNew → IsOld stores 2
  pub nowhere : IfReplay fault (λ why. IsReplayFault image stores why)
