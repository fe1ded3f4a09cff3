-- What a timeline keeps: private words.
use Rattle.std.specs.Prelude.{ℕ, ◌≡◌, ◌+◌, ◌-◌, ◌<◌, ◌≤◌, List, length, slice_get, slice_index, Some}
use Rattle.std.specs.List.{AllByRecursion}
use Rattle.ft_types.specs.Guests.{GuestParts}
use Rattle.guest_image.specs.Machine.{MachineState}
use Rattle.hart_lease.specs.Runs.{counts_of}
use Rattle.hart_replay.specs.declared.plans.PlannedLeg.{PlannedLeg}
use Rattle.hart_replay.specs.Plans.{IsPlan}
use Rattle.hart_replay.specs.Leading.{AreAtEnds}
use Rattle.log_audit.specs.machinery.Covered.{IsQuietTo}
use Rattle.plan_lines.specs.Line.{Standing, standing_at, Leads, LineView}

-- up to its stop each hart has neither edges nor inputs
abbrev pub AreQuiet : PlannedLeg → MachineState → List ℕ → Type 0
AreQuiet leg m stops = (hart : ℕ) → hart < length m.harts → IsQuietTo leg hart (counts_of m hart) (slice_index stops hart)

-- so it is in the leg in which the line stands
abbrev pub QuietAt : List PlannedLeg → Standing → List ℕ → Type 0
QuietAt legs t stops = (leg : PlannedLeg) → slice_get legs t.place ≡ Some leg → AreQuiet leg t.machine stops

-- the leg is not one that was led to its end with another behind it
abbrev pub IsTurned : List PlannedLeg → Standing → Type 0
IsTurned legs t = (leg : PlannedLeg) → slice_get legs t.place ≡ Some leg → AreAtEnds t.machine leg.ends → length legs ≤ t.place + 1

-- the leg was led to its end, and another is behind it
pub record IsLed (legs : List PlannedLeg) (t : Standing) : Type 0 where
  pub leg : PlannedLeg
  pub at : slice_get legs t.place ≡ Some leg
  pub ends : AreAtEnds t.machine leg.ends
  pub behind : t.place < length legs - 1

-- where a line of the plan begins: nobody took a step
pub record IsBegun (guest : GuestParts) (legs : List PlannedLeg) (first : Standing) : Type 0 where
  pub plan : IsPlan guest legs
  pub harts : length first.machine.harts ≡ guest.harts
  pub boot : (hart : ℕ) → counts_of first.machine hart ≡ 0
  pub is : first ≡ standing_at first.machine

-- the line leads there, and to no place behind the last leg
pub record Stands (legs : List PlannedLeg) (first t : Standing) : Type 0 where
  pub leads : Leads legs first t
  pub place : t.place ≤ length legs - 1

-- what every timeline keeps
pub record IsTimeline (guest : GuestParts) (legs : List PlannedLeg) (first now : Standing) (snapshots : List Standing) (stops : List ℕ) : Type 0 where
  pub begun : IsBegun guest legs first
  pub stands : Stands legs first now
  pub kept : AllByRecursion (Stands legs first) snapshots
  pub turned : IsTurned legs now
  pub quiet : QuietAt legs now stops

-- a timeline's line leads there
abbrev pub OnLine : LineView → Standing → Type 0
OnLine t there = Stands t.legs (standing_at t.start) there
