-- The points at which a timeline stops.
use Rattle.std.specs.Prelude.{ℕ, ◌≡◌, ◌+◌, ◌<◌, ◌≤◌, ◌⊎◌, List, Some, slice_get, Contains}
use Rattle.plan_lines.specs.declared.access.Access.{Access}
use Rattle.plan_lines.specs.declared.access.Access.TheVariants.{Nothing, Reads, Writes, Changes}
use Rattle.moments.specs.declared.points.Watched.{Watched}
use Rattle.moments.specs.declared.points.Watched.TheVariants.{Read, Write}
use Rattle.moments.specs.declared.points.Point.{Point}
use Rattle.moments.specs.declared.points.Point.TheVariants.{Break, Watch}
use Rattle.plan_lines.specs.Line.{LineView}
use Rattle.plan_lines.specs.Uses.{Overlap, StepAt}

-- a step at this pc is at the point
abbrev pub Breaks : Point → ℕ → Type 0
Breaks (Break address) pc = pc ≡ address
Breaks (Watch watched bytes) pc = ⊥

abbrev pub IsRead : Watched → Type 0
IsRead Write = ⊥
IsRead _ = Unit {0}

abbrev pub IsWrite : Watched → Type 0
IsWrite Read = ⊥
IsWrite _ = Unit {0}

-- the point watches a step that uses bytes so
abbrev pub Watches : Point → Access → Type 0
Watches (Break address) access = ⊥
Watches (Watch watched bytes) Nothing = ⊥
Watches (Watch watched bytes) (Reads those) = IsRead watched × Overlap bytes those
Watches (Watch watched bytes) (Writes those) = IsWrite watched × Overlap bytes those
Watches (Watch watched bytes) (Changes those) = Overlap bytes those

-- the step from this moment is at the point
abbrev pub BreaksAt : LineView → ℕ → Point → Type 0
BreaksAt t moment point = StepAt t.legs t.start moment (λ h access. Breaks point h.pc)

-- it is watched
abbrev pub WatchesAt : LineView → ℕ → Point → Type 0
WatchesAt t moment point = StepAt t.legs t.start moment (λ h access. Watches point access)

-- forwards: the next step is at the point, or the last one was watched
abbrev pub HoldsAt : LineView → ℕ → Point → Type 0
HoldsAt t moment point = BreaksAt t moment point ⊎ ((before : ℕ) × (moment ≡ before + 1) × WatchesAt t before point)

-- backwards: the next step is at the point, or is watched
abbrev pub HitsAt : LineView → ℕ → Point → Type 0
HitsAt t moment point = BreaksAt t moment point ⊎ WatchesAt t moment point

-- the point with this number holds here
abbrev pub IsOne : (LineView → ℕ → Point → Type 0) → List Point → LineView → ℕ → ℕ → Type 0
IsOne Holds points t moment number = (point : Point) × (slice_get points number ≡ Some point) × Holds t moment point

-- none of the points holds at a moment from the first one on and before the second
abbrev pub NoneFrom : (LineView → ℕ → Point → Type 0) → List Point → LineView → ℕ → ℕ → Type 0
NoneFrom Holds points t first end =
    (moment : ℕ) → first ≤ moment → moment < end → (point : Point) → Contains points point → Holds t moment point → ⊥
