-- Where a primary goes on that goes live.
use Rattle.std.specs.Prelude.{ℕ, ◌≡◌, ◌≢◌, List}
use Rattle.ft_types.specs.Counts.{count_at}
use Rattle.ft_types.specs.Guests.{GuestParts}
use Rattle.fragment_codec.specs.Rules.{OpeningParts}
use Rattle.log_join.specs.Stores.{StoreView, IsStore}
use Rattle.closed_cut.specs.Position.{IsPosition}
use Rattle.ft_types.specs.declared.position.Position.{Position}
use Rattle.guest_image.specs.Image.{ImageContents, guest_of}
use Rattle.guest_image.specs.Machine.{MachineState}
use Rattle.hart_lease.specs.Runs.{counts_of}
use Rattle.hart_replay.specs.declared.plans.PlannedLeg.{PlannedLeg}
use Rattle.hart_replay.specs.declared.fault.ReplayFault.{ReplayFault}
use Rattle.hart_replay.specs.declared.fault.ReplayFault.TheVariants.{OtherGuest, Memory}
use Rattle.hart_replay.specs.Plans.{noted_in}
use Rattle.hart_replay.specs.Laws.{ArePlanned}
use Rattle.hart_replay.specs.Replays.{IsOutcome, IsAtLeg, IsCyclicAt, HaltsInsideAt, IfCyclic, IfHaltedInside}
use Rattle.go_live.specs.Joined.{AreJoined}

-- the store stands at the position, and schedules of the legs planned up to there lead from the image's boot to the machine; a hart's mark is the greatest
-- number of the notes inside, or 0
pub record IsReplayed (image : ImageContents) (store : StoreView) (position : Position) (machine : MachineState) (marks : List ℕ) : Type 0 where
  pub rules : IsStore store
  pub is_position : IsPosition store position
  pub legs : List PlannedLeg
  pub planned : ArePlanned store position legs
  pub outcome : IsOutcome image legs machine
  pub counts : (hart : ℕ) → counts_of machine hart ≡ count_at position.counts hart
  pub noted : (hart : ℕ) → count_at marks hart ≡ noted_in legs hart

-- the opening of a term that goes on from the position
abbrev pub opening_from : GuestParts → ℕ → Position → OpeningParts
opening_from guest term position = record { guest = guest; term = term; parent = position.term; base = position.counts }

-- the machine is where the join of the stores leads to, with the marks of what is noted there, and the opening goes on from there
pub record IsAtPosition (image : ImageContents) (stores : List StoreView) (term : ℕ) (machine : MachineState) (opening : OpeningParts) (marks : List ℕ) :
    Type 0 where
  pub joined : StoreView
  pub are_joined : AreJoined (guest_of image) stores joined
  pub position : Position
  pub replayed : IsReplayed image joined position machine marks
  pub opened : opening ≡ opening_from (guest_of image) term position

-- the legs that are planned up to the store's position lead to no machine, for this reason
pub record HasNoMachine (image : ImageContents) (store : StoreView) (fault : ReplayFault) : Type 0 where
  pub rules : IsStore store
  pub position : Position
  pub is_position : IsPosition store position
  pub legs : List PlannedLeg
  pub planned : ArePlanned store position legs
  pub same_guest : fault ≢ OtherGuest
  pub in_memory : fault ≢ Memory
  pub cyclic : IfCyclic fault (λ counts. IsAtLeg image legs (λ leg m. IsCyclicAt leg m counts))
  pub halted_inside : IfHaltedInside fault (λ hart count. IsAtLeg image legs (λ leg m. HaltsInsideAt leg m hart count))

-- the join of the stores leads to no machine, for this reason
abbrev pub LeadNowhere : ImageContents → List StoreView → ReplayFault → Type 0
LeadNowhere image stores fault = (joined : StoreView) × AreJoined (guest_of image) stores joined × HasNoMachine image joined fault
