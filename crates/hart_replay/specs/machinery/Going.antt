-- A leg that goes on from where its harts have come to: private words.
use Rattle.std.specs.Prelude.{◌≡◌, ℕ, List, length, take, slice_get, Option, Some, None}
use Rattle.ft_types.specs.Counts.{count_at}
use Rattle.interleaving.specs.Log.{Begins}
use Rattle.guest_image.specs.Image.{ImageContents}
use Rattle.guest_image.specs.Machine.{MachineState}
use Rattle.hart_lease.specs.Runs.{run_of, counts_of}
use Rattle.hart_replay.specs.declared.plans.PlannedLeg.{PlannedLeg}
use Rattle.hart_replay.specs.declared.fault.ReplayFault.{ReplayFault}
use Rattle.hart_replay.specs.Plans.{IsLeg, log_of}
use Rattle.hart_replay.specs.Replays.{leg_turns, LegLeads}
use Rattle.hart_replay.specs.Leading.{IsLegFault, IsSoFar}

-- the leg's harts went from the first machine to the second in an order that begins a schedule of the leg
pub record HasCome (leg : PlannedLeg) (m now : MachineState) : Type 0 where
  pub is_leg : IsLeg (length m.harts) leg
  pub base : (hart : ℕ) → count_at leg.base hart ≡ counts_of m hart
  pub order : List ℕ
  pub begins : Begins (log_of leg).edges (count_at leg.ends) (log_of leg).start order
  pub run : run_of m (leg_turns leg order) ≡ Some now

-- from wherever its harts had come to this machine, the leg leads to that one
abbrev pub LeadsOn : PlannedLeg → MachineState → MachineState → Type 0
LeadsOn leg now n = (m : MachineState) → HasCome leg m now → LegLeads leg m n

-- or has this fault
abbrev pub FailsOn : PlannedLeg → MachineState → ReplayFault → Type 0
FailsOn leg now fault = (m : MachineState) → HasCome leg m now → IsLegFault leg m fault

-- the leg's harts have come here, where there is a leg
abbrev pub HasComeIn : Option PlannedLeg → MachineState → MachineState → Type 0
HasComeIn None m now = now ≡ m
HasComeIn (Some leg) m now = HasCome leg m now

-- the first legs led to a machine, from which the next one's harts have come to this
pub record IsAt (image : ImageContents) (legs : List PlannedLeg) (n : ℕ) (now : MachineState) : Type 0 where
  pub found : MachineState
  pub so_far : IsSoFar image legs n found
  pub come : HasComeIn (slice_get legs n) found now
