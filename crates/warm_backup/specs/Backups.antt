-- A backup that keeps up with a store of its own.
use Rattle.std.specs.Prelude.{◌≡◌, ℕ, List, Result, MatchResult}
use Rattle.ft_types.specs.Counts.{count_at}
use Rattle.ft_types.specs.declared.position.Position.{Position}
use Rattle.interleaving.specs.Stored.{view}
use Rattle.log_join.specs.Stores.{StoreView, IsStore}
use Rattle.rv32_hart.specs.Hardware.{hardware}
use Rattle.guest_image.specs.Image.{ImageContents}
use Rattle.guest_image.specs.Machine.{MachineState}
use Rattle.hart_replay.specs.declared.plans.PlannedLeg.{PlannedLeg}
use Rattle.hart_replay.specs.declared.fault.ReplayFault.{ReplayFault}
use Rattle.hart_replay.specs.declared.fault.ReplayFault.TheVariants.{Memory}
use Rattle.hart_replay.specs.Images.{GuestHistory, machine_of, IsHonestStoreOf}

-- an image, what came, the legs that were replayed, up to a position, and the machine there; and how many steps the last advance took
pub record BackupView : Type 0 where
  pub image : ImageContents
  pub store : StoreView
  pub legs : List PlannedLeg
  pub position : Position
  pub machine : MachineState
  pub last_steps : ℕ

-- Where the store's frames are honest frames of one history of the image, the machine is the history's at the position, and the only
-- fault is refused memory.
abbrev pub FollowsHistory : StoreView → Result Unit ReplayFault → BackupView → Type 0
FollowsHistory store result b =
    (history : GuestHistory) → IsStore store → IsHonestStoreOf b.image history store →
    MatchResult result
    (λ done.
    view (hardware b.image.pages) b.machine ≡ machine_of b.image history b.position.term (count_at b.position.counts))
    (λ fault. fault ≡ Memory)
