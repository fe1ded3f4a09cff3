-- The order of outputs.
use Rattle.std.specs.Prelude.{◌≡◌, ◌⊎◌, ℕ, ◌<◌, ◌≤◌, ◌++◌, List, [], ◌∷◌, length}
use Rattle.std.specs.List.{AllByRecursion, Contains}
use Rattle.ft_types.specs.declared.names.TheConstants.{HART_LIMIT}
use Rattle.ft_types.specs.declared.output.Output.{Output}
use Rattle.output_gate.specs.Gates.{LineView, GateView, offered_in, mark_at, passed_of, waiting_of}

-- an output of the same hart with a greater number, and of a step that isn't earlier
pub record ComesAfter (o later : Output) : Type 0 where
  pub hart : later.hart ≡ o.hart
  pub number : o.number < later.number
  pub step : o.step ≤ later.step

-- of the outputs of a hart, none has an earlier step than one with a smaller number
abbrev pub StepsRise : List Output → Type 0
StepsRise outputs = (o later : Output) → Contains outputs o → Contains outputs later → o.number < later.number → o.step ≤ later.step

-- each comes after those before it
abbrev pub AreInLine : List Output → Type 0
AreInLine [] = Unit {0}
AreInLine (o ∷ os) = AllByRecursion (ComesAfter o) os × AreInLine os

-- each that waits comes after each that has gone out
abbrev pub NoneIsBefore : List Output → List Output → Type 0
NoneIsBefore waiting gone = AllByRecursion (λ o. AllByRecursion (ComesAfter o) waiting) gone

-- the hart comes first, or it is the same and the number comes first
abbrev pub IsBefore : Output → Output → Type 0
IsBefore o later = (o.hart < later.hart) ⊎ ((o.hart ≡ later.hart) × (o.number < later.number))

-- by hart, then number
abbrev pub RiseByHart : List Output → Type 0
RiseByHart [] = Unit {0}
RiseByHart (o ∷ os) = AllByRecursion (IsBefore o) os × RiseByHart os

-- the outputs of a hart that were offered are those of this hart with numbers below how many they are; those below the mark are passed over, and no others;
-- those that wait do so by number; and where the steps rise, they are passed over, went out and wait in line
pub record IsLineOf (hart : ℕ) (line : LineView) : Type 0 where
  pub of_hart : AllByRecursion (λ o. (o.hart ≡ hart) × (o.number < length (offered_in line))) (offered_in line)
  pub passed : AllByRecursion (λ o. o.number < line.mark) line.passed
  pub others : AllByRecursion (λ o. line.mark ≤ o.number) (line.gone ++ line.waiting)
  pub by_number : RiseByHart line.waiting
  pub in_line : StepsRise (offered_in line) → AreInLine (offered_in line)

-- the output is of the same hart as those, and has a greater number
abbrev pub AreBehind : Output → List Output → Type 0
AreBehind output outputs = AllByRecursion (λ o. (o.hart ≡ output.hart) × (o.number < output.number)) outputs

-- its number is how many outputs were offered, and it is behind those that wait
abbrev pub IsNext : Output → LineView → Type 0
IsNext output line = (output.number ≡ length (offered_in line)) × AreBehind output line.waiting

-- no step is later than this one
abbrev pub AreUpTo : ℕ → List Output → Type 0
AreUpTo step outputs = AllByRecursion (λ o. o.step ≤ step) outputs

-- each of these outputs that is of the same hart has a later step
abbrev pub AreLaterThan : Output → List Output → Type 0
AreLaterThan given outputs = AllByRecursion (λ o. o.hart ≡ given.hart → given.step < o.step) outputs

-- each of the outputs that are given has an earlier step than whatever waits of its hart
abbrev pub AreEarlier : List Output → GateView → Type 0
AreEarlier given gate = (hart : ℕ) → hart < HART_LIMIT → AllByRecursion (λ o. AreLaterThan o (waiting_of gate hart)) given

-- whatever is passed over is below its hart's mark
abbrev pub ArePassedBelow : GateView → Type 0
ArePassedBelow gate = (hart : ℕ) → hart < HART_LIMIT → AllByRecursion (λ o. o.number < mark_at gate hart) (passed_of gate hart)

-- none of the outputs is below its hart's mark
abbrev pub AreAbove : GateView → List Output → Type 0
AreAbove gate outputs = AllByRecursion (λ o. mark_at gate o.hart ≤ o.number) outputs
