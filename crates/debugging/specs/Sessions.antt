-- A session, and where it is led.
use Rattle.std.specs.Prelude.{ℕ, ◌≡◌, ◌+◌, ◌<◌, List, [], Some, slice_get}
use Rattle.rv32_hart.specs.Hart.{Hart}
use Rattle.guest_image.specs.Machine.{MachineState}
use Rattle.hart_lease.specs.Runs.{counts_of}
use Rattle.plan_lines.specs.Line.{LineView, IsAt}
use Rattle.moments.specs.declared.points.Point.{Point}

-- a timeline, the hart of which more is asked, the one whose steps are taken, and where it stops
pub record SessionView : Type 0 where
  pub line : LineView
  pub shown : ℕ
  pub led : ℕ
  pub points : List Point

-- one that begins: hart 0 is led, and more is asked of it
abbrev pub session_at : LineView → SessionView
session_at line = record { line = line; shown = 0; led = 0; points = [] }

-- the machine has this hart, and more is asked of it
abbrev pub IsShown : SessionView → Hart → Type 0
IsShown s h = slice_get s.line.stands.machine.harts s.shown ≡ Some h

-- the same line of the same plan, wherever it stands
pub record IsOfLine (b c : LineView) : Type 0 where
  pub guest : c.guest ≡ b.guest
  pub legs : c.legs ≡ b.legs
  pub start : c.start ≡ b.start

-- it stands at the first moment at which the hart has so many steps
pub record IsFirstWith (t : LineView) (hart count : ℕ) : Type 0 where
  pub has : counts_of t.stands.machine hart ≡ count
  pub fewer : (moment : ℕ) (m : MachineState) → moment < t.stands.moment → IsAt t.legs t.start moment m → counts_of m hart < count

-- it stands one step before the first moment at which the hart has so many steps
abbrev pub IsBeforeStep : LineView → ℕ → ℕ → Type 0
IsBeforeStep b hart count = (t : LineView) × IsOfLine b t × IsFirstWith t hart count × (b.stands.moment + 1 ≡ t.stands.moment)
