-- The first of the harts that may go, hart by hart: private words.
use Rattle.std.specs.Prelude.{ℕ, ◌<◌, Option, Some, None}
use Rattle.guest_image.specs.Machine.{MachineState}
use Rattle.hart_replay.specs.declared.plans.PlannedLeg.{PlannedLeg}
use Rattle.plan_lines.specs.Line.{MayGo, ComesFirst}

-- of the first harts it is the first that may go
pub record IsFirstOf (leg : PlannedLeg) (m : MachineState) (many hart : ℕ) : Type 0 where
  pub below : hart < many
  pub may : MayGo leg m hart
  pub first : (other : ℕ) → other < many → MayGo leg m other → ComesFirst m hart other

abbrev pub Chosen : PlannedLeg → MachineState → ℕ → Option ℕ → Type 0
Chosen leg m many None = (other : ℕ) → other < many → MayGo leg m other → ⊥
Chosen leg m many (Some hart) = IsFirstOf leg m many hart
