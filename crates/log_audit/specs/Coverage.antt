-- What an audit says of a plan.
use Rattle.std.specs.Prelude.{ℕ, ◌≡◌, ◌≢◌, ◌<◌, ◌⊎◌, List, [], ◌∷◌, length, Option, Some, Contains}
use Rattle.ft_types.specs.Counts.{count_at}
use Rattle.interleaving.specs.Machine.{Step, Writes, steps}
use Rattle.interleaving.specs.Log.{Before, Begins, Place, place}
use Rattle.interleaving.specs.Stored.{system_of, view}
use Rattle.input_log.specs.declared.Input.{Input}
use Rattle.rv32_hart.specs.Hart.{Hart}
use Rattle.rv32_hart.specs.Hardware.{hardware}
use Rattle.guest_image.specs.Machine.{MachineState}
use Rattle.hart_lease.specs.Runs.{run_of}
use Rattle.hart_replay.specs.declared.plans.PlannedLeg.{PlannedLeg}
use Rattle.hart_replay.specs.Plans.{log_of}
use Rattle.hart_replay.specs.Replays.{leg_turns, LegLeads, GetsStuck}

-- whatever schedule of the leg is taken from the first machine, each of its steps can be taken, it is never stuck, and it leads to
-- the second machine
pub record LegAgrees (leg : PlannedLeg) (m n : MachineState) : Type 0 where
  pub leads : LegLeads leg m n
  pub runs : (order : List ℕ) → Begins (log_of leg).edges (count_at leg.ends) (log_of leg).start order →
      (k : MachineState) × (run_of m (leg_turns leg order) ≡ Some k)
  pub not_stuck : (order : List ℕ) (k : MachineState) → GetsStuck leg m order k → ⊥
  pub only : (k : MachineState) → LegLeads leg m k → k ≡ n

-- the same of legs, one after the other
abbrev pub LegsAgree : List PlannedLeg → MachineState → MachineState → Type 0
LegsAgree [] m n = n ≡ m
LegsAgree (leg ∷ legs) m n = (next : MachineState) × LegAgrees leg m next × LegsAgree legs next n

-- ---- steps that nothing orders

-- a step of a run of the machine
abbrev pub TakenStep : Type 0
TakenStep = Step (Option Hart) (Option (List ℕ)) (List Input)

-- the steps of the leg's harts in this order, from this machine on
abbrev pub steps_in : PlannedLeg → MachineState → List ℕ → List TakenStep
steps_in leg m order = steps (system_of (hardware (length m.pages))) (view (hardware (length m.pages)) m) (leg_turns leg order)

-- by hart and count
abbrev pub place_in : MachineState → TakenStep → Place
place_in m s = place (system_of (hardware (length m.pages))) s

-- two steps of a beginning of a schedule of the leg, of different harts, touch the page, one of them writes it, and neither comes
-- before the other by the edges and the harts' own orders
pub record AreUncovered (leg : PlannedLeg) (m : MachineState) (page : ℕ) (one other : ℕ × ℕ) : Type 0 where
  pub order : List ℕ
  pub begins : Begins (log_of leg).edges (count_at leg.ends) (log_of leg).start order
  pub machine : MachineState
  pub run : run_of m (leg_turns leg order) ≡ Some machine
  pub apart : one.0 ≢ other.0
  pub first : TakenStep
  pub first_taken : Contains (steps_in leg m order) first
  pub first_is : place_in m first ≡ record { hart = one.0; step = one.1 }
  pub second : TakenStep
  pub second_taken : Contains (steps_in leg m order) second
  pub second_is : place_in m second ≡ record { hart = other.0; step = other.1 }
  pub first_touches : Contains first.effect.touched page
  pub second_touches : Contains second.effect.touched page
  pub writes : Writes first.effect page ⊎ Writes second.effect page
  pub not_before : Before (log_of leg).edges (place_in m first) (place_in m second) → ⊥
  pub not_after : Before (log_of leg).edges (place_in m second) (place_in m first) → ⊥

-- the same, with the lesser hart's step first
abbrev pub IsUncoveredAt : PlannedLeg → MachineState → ℕ → ℕ × ℕ → ℕ × ℕ → Type 0
IsUncoveredAt leg m page one other = (one.0 < other.0) × AreUncovered leg m page one other
