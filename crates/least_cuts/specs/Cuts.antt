-- What a step of a hart stands on.
use Rattle.std.specs.Prelude.{ℕ, ◌≡◌, ◌<◌, ◌⊎◌, List, [], ◌∷◌, ◌++◌, All}
use Rattle.ft_types.specs.Counts.{count_at}
use Rattle.interleaving.specs.Lists.{IsWithin}
use Rattle.interleaving.specs.Log.{IsCut}
use Rattle.guest_image.specs.Image.{ImageContents}
use Rattle.guest_image.specs.Machine.{MachineState, boot_machine}
use Rattle.hart_replay.specs.declared.plans.PlannedLeg.{PlannedLeg}
use Rattle.hart_replay.specs.Plans.{log_of}
use Rattle.hart_replay.specs.Replays.{IsOutcome}

-- the closed cuts of the leg at which the hart has exactly so many steps
pub record IsCutAt (leg : PlannedLeg) (hart steps : ℕ) (at : ℕ → ℕ) : Type 0 where
  pub cut : IsCut (log_of leg) at
  pub count : at hart ≡ steps

-- the least of them
pub record IsLeastCut (leg : PlannedLeg) (hart count : ℕ) (counts : List ℕ) : Type 0 where
  pub is_cut : IsCutAt leg hart count (count_at counts)
  pub least : (other : ℕ → ℕ) → IsCutAt leg hart count other → IsWithin (count_at counts) other

-- the leg, up to these counts
abbrev pub leg_to : PlannedLeg → List ℕ → PlannedLeg
leg_to leg counts = record leg { ends = counts }

-- In the first leg that has so many steps of the hart the least closed cut was found, and the legs before it and the leg up to the cut
-- lead to the machine.
pub record IsAtCount (image : ImageContents) (legs : List PlannedLeg) (hart count : ℕ) (m : MachineState) : Type 0 where
  pub front : List PlannedLeg
  pub leg : PlannedLeg
  pub back : List PlannedLeg
  pub parts : legs ≡ front ++ leg ∷ back
  pub first : All (λ before. count_at before.ends hart < count) front
  pub counts : List ℕ
  pub least : IsLeastCut leg hart count counts
  pub led : IsOutcome image (front ++ leg_to leg counts ∷ []) m

-- a hart that has no step has none at boot
abbrev pub IsLeastMachine : ImageContents → List PlannedLeg → ℕ → ℕ → MachineState → Type 0
IsLeastMachine image legs hart count m = ((count ≡ 0) × (m ≡ boot_machine image)) ⊎ IsAtCount image legs hart count m
