-- What streams of frames lead to before their end.
use Rattle.std.specs.Prelude.{◌≡◌, ◌≤◌, ◌⊎◌, ℕ, List, Contains}
use Rattle.log_join.specs.Stores.{StoreView}
use Rattle.guest_image.specs.Image.{ImageContents, guest_of}
use Rattle.guest_image.specs.Machine.{MachineState, boot_machine}
use Rattle.guest_image.specs.Text.{machine_text}
use Rattle.hart_replay.specs.declared.plans.PlannedLeg.{PlannedLeg}
use Rattle.plan_lines.specs.Line.{LineView}
use Rattle.least_cuts.specs.Cuts.{IsCutAt, IsLeastMachine}
use Rattle.log_streams.specs.Streams.{AreJoined}
use Rattle.log_streams.specs.Outcome.{ArePlannedTo}
use Rattle.command_line.specs.declared.words.Place.{Place}
use Rattle.command_line.specs.declared.faults.CommandFault.{CommandFault}
use Rattle.command_line.specs.declared.faults.CommandFault.TheVariants.{NoStep}

-- ---- a store

-- the machine at the least closed cut of the planned legs that has so many steps of the hart
abbrev pub IsMachineAt : ImageContents → StoreView → Place → MachineState → Type 0
IsMachineAt image store place machine = (legs : List PlannedLeg) × ArePlannedTo store legs × IsLeastMachine image legs place.hart place.count machine

-- the hart is not there, or the planned legs have no closed cut with so many steps of it
abbrev pub HasNoCutAt : ImageContents → StoreView → Place → Type 0
HasNoCutAt image store place =
    (image.harts ≤ place.hart) ⊎
    ((legs : List PlannedLeg) × ArePlannedTo store legs ×
    ((leg : PlannedLeg) (cut : ℕ → ℕ) → Contains legs leg → IsCutAt leg place.hart place.count cut → ⊥))

-- ---- streams

-- the same of the join of the streams' frames
abbrev pub IsMachineOf : ImageContents → List (List ℕ) → Place → MachineState → Type 0
IsMachineOf image streams place machine = (store : StoreView) × AreJoined (guest_of image) streams store × IsMachineAt image store place machine

abbrev pub HasNoCutOf : ImageContents → List (List ℕ) → Place → Type 0
HasNoCutOf image streams place = (store : StoreView) × AreJoined (guest_of image) streams store × HasNoCutAt image store place

-- the text is that of a machine of which P holds
abbrev pub IsTextOf : (MachineState → Type 0) → List ℕ → Type 0
IsTextOf P text = (machine : MachineState) × P machine × (text ≡ machine_text machine)

-- a fact of the place, where the fault is that there is no such step
abbrev pub IfNoStep : CommandFault → (Place → Type 0) → Type 0
IfNoStep (NoStep place) P = P place
IfNoStep _ P = Unit {0}

-- the line of the plan of the join of the streams' frames, which begins with the image's boot; it stands at its beginning
abbrev pub IsLineOf : ImageContents → List (List ℕ) → LineView → Type 0
IsLineOf image streams line = (store : StoreView) × AreJoined (guest_of image) streams store × ArePlannedTo store line.legs ×
    (line.start ≡ boot_machine image) × (line.stands.moment ≡ 0)
