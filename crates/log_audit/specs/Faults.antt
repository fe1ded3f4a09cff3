-- Why an audit says no.
use Rattle.std.specs.Prelude.{ℕ, List}
use Rattle.guest_image.specs.Image.{ImageContents}
use Rattle.guest_image.specs.Machine.{MachineState}
use Rattle.hart_replay.specs.declared.plans.PlannedLeg.{PlannedLeg}
use Rattle.hart_replay.specs.declared.fault.ReplayFault.TheVariants.{Cyclic, HaltedInside, OtherGuest, Memory}
use Rattle.hart_replay.specs.Replays.{IsAtLeg, IsCyclicAt, HaltsInsideAt}
use Rattle.log_audit.specs.declared.fault.AuditFault.{AuditFault}
use Rattle.log_audit.specs.declared.fault.AuditFault.TheVariants.{Uncovered, Replay}
use Rattle.log_audit.specs.Coverage.{IsUncoveredAt}

abbrev pub fault_number : AuditFault → ℕ
fault_number (Uncovered page one other) = 1
fault_number (Replay fault) = 2

-- a fact of the page and the steps, where the fault is Uncovered
abbrev pub IfUncovered : AuditFault → (ℕ → ℕ × ℕ → ℕ × ℕ → Type 0) → Type 0
IfUncovered (Uncovered page one other) P = P page one other
IfUncovered _ P = Unit {0}

-- of the counts, where no hart can go on and none of those below their ends is halted
abbrev pub IfCyclic : AuditFault → (List ℕ → Type 0) → Type 0
IfCyclic (Replay (Cyclic counts)) P = P counts
IfCyclic _ P = Unit {0}

-- of the hart and its count, where it halts below its end
abbrev pub IfHaltedInside : AuditFault → (ℕ → ℕ → Type 0) → Type 0
IfHaltedInside (Replay (HaltedInside hart count)) P = P hart count
IfHaltedInside _ P = Unit {0}

-- why the audit of a leg from this machine says no
abbrev pub IsLegFault : PlannedLeg → MachineState → AuditFault → Type 0
IsLegFault leg m (Uncovered page one other) = IsUncoveredAt leg m page one other
IsLegFault leg m (Replay (Cyclic counts)) = IsCyclicAt leg m counts
IsLegFault leg m (Replay (HaltedInside hart count)) = HaltsInsideAt leg m hart count
IsLegFault leg m (Replay OtherGuest) = ⊥
IsLegFault leg m (Replay Memory) = Unit {0}

-- and that of legs, one after the other
abbrev pub IsLegsFault : ImageContents → List PlannedLeg → AuditFault → Type 0
IsLegsFault image legs (Uncovered page one other) = IsAtLeg image legs (λ leg m. IsUncoveredAt leg m page one other)
IsLegsFault image legs (Replay (Cyclic counts)) = IsAtLeg image legs (λ leg m. IsCyclicAt leg m counts)
IsLegsFault image legs (Replay (HaltedInside hart count)) = IsAtLeg image legs (λ leg m. HaltsInsideAt leg m hart count)
IsLegsFault image legs (Replay OtherGuest) = ⊥
IsLegsFault image legs (Replay Memory) = Unit {0}
