-- What becomes of a hart's turn: private words.
use Rattle.std.specs.Prelude.{ℕ, ◌≡◌, ◌<◌, length}
use Rattle.hart_replay.specs.declared.plans.PlannedLeg.{PlannedLeg}
use Rattle.guest_image.specs.Machine.{MachineState}
use Rattle.log_audit.specs.declared.harts.Clash.{Clash}
use Rattle.log_audit.specs.declared.harts.Turn.{Turn}
use Rattle.log_audit.specs.declared.harts.Turn.TheVariants.{Held, Went, Clashed}
use Rattle.log_audit.specs.declared.legs.Ended.{Ended}
use Rattle.log_audit.specs.declared.legs.Ended.TheVariants.{Stopped, Clashed as Over}
use Rattle.log_audit.specs.Coverage.{AreUncovered}
use Rattle.log_audit.specs.machinery.Covered.{HartsView, machine_of, GoesOn, IsHeld, IsOn}

abbrev pub IsClash : PlannedLeg → MachineState → Clash → Type 0
IsClash leg m c = AreUncovered leg m c.page c.one c.other

abbrev pub Turns : PlannedLeg → ℕ → HartsView → Turn → HartsView → Type 0
Turns leg hart b Held c = (c ≡ b) × IsHeld leg b hart
Turns leg hart b Went c = GoesOn leg b c
Turns leg hart b (Clashed clash) c = IsClash leg b.start clash

-- the same of the first harts, one after the other
abbrev pub TurnsOf : PlannedLeg → ℕ → HartsView → Turn → HartsView → Type 0
TurnsOf leg many b Held c = (c ≡ b) × ((hart : ℕ) → hart < many → IsHeld leg b hart)
TurnsOf leg many b Went c = GoesOn leg b c
TurnsOf leg many b (Clashed clash) c = IsClash leg b.start clash

-- none of the harts can go on, or a step clashes
pub record HasStopped (leg : PlannedLeg) (many : ℕ) (b c : HartsView) : Type 0 where
  pub start : c.start ≡ b.start
  pub on : IsOn leg c
  pub held : (hart : ℕ) → hart < many → IsHeld leg c hart

-- The leg led to a machine, at which none of its harts can go on and each conflict is ordered; or two steps clash.
abbrev pub Ends : PlannedLeg → MachineState → Ended → Type 0
Ends leg m (Stopped n) = (v : HartsView) × (v.start ≡ m) × (machine_of v ≡ n) × IsOn leg v × ((hart : ℕ) → hart < length n.harts → IsHeld leg v hart)
Ends leg m (Over clash) = IsClash leg m clash
