-- A backup that keeps up with a store.
use Rattle.std.specs.Prelude.{◌≡◌, ◌<◌, ◌≤◌, ◌⊎◌, ◌++◌, ◌∷◌, ℕ, List, [], Option, Some, None, Result, MatchResult}
use Rattle.ft_types.specs.Counts.{count_at}
use Rattle.interleaving.specs.Stored.{view}
use Rattle.log_join.specs.Stores.{StoreView, IsStore}
use Rattle.ft_types.specs.declared.position.Position.{Position}
use Rattle.rv32_hart.specs.Hardware.{hardware}
use Rattle.guest_image.specs.Image.{ImageContents}
use Rattle.guest_image.specs.Machine.{MachineState}
use Rattle.hart_replay.specs.declared.plans.PlannedLeg.{PlannedLeg}
use Rattle.hart_replay.specs.declared.fault.ReplayFault.{ReplayFault}
use Rattle.hart_replay.specs.declared.fault.ReplayFault.TheVariants.{OtherGuest, Memory}
use Rattle.hart_replay.specs.Plans.{PlanView}
use Rattle.hart_replay.specs.Images.{GuestHistory, machine_of, IsHonestStoreOf}

-- an image, the legs that were replayed, up to a position, and the machine there; and how many steps the last advance took
pub record FollowerView : Type 0 where
  pub image : ImageContents
  pub legs : List PlannedLeg
  pub position : Position
  pub machine : MachineState
  pub last_steps : ℕ

-- the legs of a plan, none where there is none
abbrev pub legs_of : Option PlanView → List PlannedLeg
legs_of None = []
legs_of (Some plan) = plan.legs

-- Where the store's frames are honest frames of one history of the image, the machine is the history's at the position, and the only
-- faults are another guest and refused memory.
abbrev pub FollowsHistory : StoreView → Result Unit ReplayFault → FollowerView → Type 0
FollowsHistory store result f =
    (history : GuestHistory) → IsStore store → IsHonestStoreOf f.image history store →
    MatchResult result
    (λ done.
    view (hardware f.image.pages) f.machine ≡ machine_of f.image history f.position.term (count_at f.position.counts))
    (λ fault. (fault ≡ OtherGuest) ⊎ (fault ≡ Memory))
