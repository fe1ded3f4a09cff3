-- What keeps up with a store.
use Rattle.std.specs.Prelude.{◌≡◌, List}
use Rattle.log_join.specs.Stores.{StoreView}
use Rattle.closed_cut.specs.Position.{IsPosition}
use Rattle.ft_types.specs.declared.position.Position.{Position}
use Rattle.guest_image.specs.Image.{ImageContents, guest_of}
use Rattle.guest_image.specs.Machine.{MachineState}
use Rattle.hart_replay.specs.declared.plans.PlannedLeg.{PlannedLeg}
use Rattle.hart_replay.specs.declared.fault.ReplayFault.{ReplayFault}
use Rattle.hart_replay.specs.Plans.{IsPlan}
use Rattle.hart_replay.specs.Replays.{IsOutcome}
use Rattle.hart_replay.specs.Laws.{ArePlanned}
use Rattle.hart_replay.specs.Leading.{IsLegsFault}

-- schedules of the legs of a plan lead from the image's boot to the machine
pub record KeepsUp (image : ImageContents) (legs : List PlannedLeg) (machine : MachineState) : Type 0 where
  pub plan : IsPlan (guest_of image) legs
  pub led : IsOutcome image legs machine

-- why the legs planned up to the store's position lead to no machine
pub record IsFaultOfStore (image : ImageContents) (store : StoreView) (fault : ReplayFault) : Type 0 where
  pub position : Position
  pub is_position : IsPosition store position
  pub legs : List PlannedLeg
  pub planned : ArePlanned store position legs
  pub is_fault : IsLegsFault image legs fault
