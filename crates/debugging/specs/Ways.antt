-- Ways through a line, and where they end.
use Rattle.std.specs.Prelude.{◌≡◌, ◌⊎◌, ℕ, ◌+◌, ◌-◌, ◌<◌, List, [], Option, Some, None, length, slice_get}
use Rattle.guest_image.specs.Machine.{MachineState}
use Rattle.hart_lease.specs.Runs.{counts_of}
use Rattle.plan_lines.specs.Line.{LineView, InLeg, IsAt, IsNext, NoneMayGo}
use Rattle.moments.specs.Stops.{HasStopped, HasStoppedBack}
use Rattle.moments.specs.declared.points.Point.{Point}
use Rattle.moments.specs.declared.points.Point.TheVariants.{Watch}
use Rattle.moments.specs.declared.points.Stop.{Stop}
use Rattle.moments.specs.declared.points.Stop.TheVariants.{At, End, Begin}
use Rattle.debugging.specs.declared.commands.Way.{Way}
use Rattle.debugging.specs.declared.commands.Way.TheVariants.{Step, Continue, StepBack, ContinueBack}
use Rattle.debugging.specs.declared.stops.Reason.{Reason}
use Rattle.debugging.specs.declared.stops.Reason.TheVariants.{Led, Point as AtPoint, Begin as AtBegin, End as AtEnd}
use Rattle.debugging.specs.declared.runs.Arrival.{Arrival}
use Rattle.debugging.specs.Sessions.{SessionView, IsFirstWith, IsBeforeStep}
use Rattle.debugging.specs.declared.numbers.Thread.{Thread}
use Rattle.debugging.specs.Asked.{IsOfHart, IsOfNone}
use Rattle.debugging.specs.Stops.{stop_text}

-- ---- one step

-- at no moment of the line the hart has so many steps
abbrev pub NoMomentWith : LineView → ℕ → ℕ → Type 0
NoMomentWith t hart count = (moment : ℕ) (m : MachineState) → IsAt t.legs t.start moment m → counts_of m hart < count

abbrev pub arrival_at : ℕ → Reason → Arrival
arrival_at hart reason = record { hart = hart; reason = reason }

-- on to the first moment at which the hart has one step more; it stays where there is none
abbrev pub HasStepped : LineView → LineView → ℕ → Arrival → Type 0
HasStepped b c hart a =
    ((a ≡ arrival_at hart Led) × IsFirstWith c hart (counts_of b.stands.machine hart + 1)) ⊎
    ((a ≡ arrival_at hart AtEnd) × (c ≡ b) × NoMomentWith b hart (counts_of b.stands.machine hart + 1))

-- back to the moment from which the hart's last step was taken; it stays where there is none, or goes to the line's beginning if the hart has that step there
abbrev pub HasSteppedBack : LineView → LineView → ℕ → Arrival → Type 0
HasSteppedBack b c hart a =
    ((a ≡ arrival_at hart Led) × IsBeforeStep c hart (counts_of b.stands.machine hart)) ⊎
    ((a ≡ arrival_at hart AtBegin) × (c ≡ b) × (counts_of b.stands.machine hart ≡ 0)) ⊎
    ((a ≡ arrival_at hart AtBegin) × (c.stands.moment ≡ 0) × IsFirstWith c hart (counts_of b.stands.machine hart))

-- ---- to a point

-- 1 where the point watches, and 0 otherwise
abbrev pub watching : Option Point → ℕ
watching (Some (Watch watched bytes)) = 1
watching _ = 0

-- 1 where what stopped is a point that watches
abbrev pub watching_stop : List Point → Stop → ℕ
watching_stop points (At number) = watching (slice_get points number)
watching_stop points _ = 0

abbrev pub point_reason : Option Point → Reason
point_reason (Some point) = AtPoint point
point_reason None = Led

abbrev pub reason_of_stop : List Point → Stop → Reason
reason_of_stop points (At number) = point_reason (slice_get points number)
reason_of_stop points End = AtEnd
reason_of_stop points Begin = AtBegin

-- the hart's step comes next; where none does, it is the other hart
abbrev pub IsNextOr : LineView → ℕ → ℕ → Type 0
IsNextOr t hart other = InLeg t (λ leg. IsNext leg t.stands.machine hart ⊎ (NoneMayGo leg t.stands.machine × (hart ≡ other)))

-- on to where a point holds, or to the end; a step that is watched comes next then
pub record HasContinued (points : List Point) (hart : ℕ) (b c : LineView) (a : Arrival) : Type 0 where
  pub there : LineView
  pub stop : Stop
  pub stopped : HasStopped points b there stop
  pub moment : c.stands.moment ≡ there.stands.moment - watching_stop points stop
  pub reason : a.reason ≡ reason_of_stop points stop
  pub next : IsNextOr c a.hart hart

-- back to where a point holds, or to the beginning; a step that is watched was the last one then
pub record HasContinuedBack (points : List Point) (hart : ℕ) (b c : LineView) (a : Arrival) : Type 0 where
  pub there : LineView
  pub stop : Stop
  pub stopped : HasStoppedBack points b there stop
  pub moment : c.stands.moment ≡ there.stands.moment + watching_stop points stop
  pub reason : a.reason ≡ reason_of_stop points stop
  pub next : IsNextOr there a.hart hart

-- the way with the steps of the hart, or up to one of the points, leads from the first to the second
abbrev pub Goes : Way → List Point → ℕ → LineView → LineView → Arrival → Type 0
Goes Step points hart b c a = HasStepped b c hart a
Goes StepBack points hart b c a = HasSteppedBack b c hart a
Goes Continue points hart b c a = HasContinued points hart b c a
Goes ContinueBack points hart b c a = HasContinuedBack points hart b c a

-- the hart of the thread; where it has none, the one that was led last
abbrev pub IsLed : SessionView → Thread → ℕ → Type 0
IsLed s thread hart = IsOfHart (length s.line.stands.machine.harts) thread hart ⊎ (IsOfNone (length s.line.stands.machine.harts) thread × (hart ≡ s.led))

-- the session has gone the way: of the hart at which it arrived more is asked, and that is led; the text says why it stands there
abbrev pub HasGone : SessionView → SessionView → Way → ℕ → List ℕ → Type 0
HasGone s t way hart text = (a : Arrival) × Goes way s.points hart s.line t.line a ×
    (t ≡ record { line = t.line; shown = a.hart; led = a.hart; points = s.points }) × (text ≡ stop_text a.hart a.reason)
