-- Steps on and back through a line, and where they end.
use Rattle.std.proofs.Common.{◌≡◌, ◌⊎◌, inl, inr, ℕ, ◌<◌, ◌≤◌, ◌+◌, ◌-◌, Bool, true, false, refl, subst, sym, ap, arith, List, Option, None, Some, slice_get}
use Rattle.guest_image.specs.Machine.{MachineState}
use Rattle.hart_lease.specs.Runs.{counts_of}
use Rattle.plan_lines.specs.Line.{LineView, IsAt}
use Rattle.moments.specs.declared.points.Point.{Point}
use Rattle.moments.specs.declared.points.Point.TheVariants.{Break, Watch}
use Rattle.moments.specs.declared.points.Stop.{Stop}
use Rattle.moments.specs.declared.points.Stop.TheVariants.{At, End, Begin}
use Rattle.moments.specs.Stops.{HasStoppedBack}
use Rattle.debugging.specs.declared.stops.Reason.TheVariants.{Led, Begin as AtBegin, End as AtEnd}
use Rattle.debugging.specs.Sessions.{IsFirstWith, IsBeforeStep}
use Rattle.debugging.specs.Ways.{NoMomentWith, HasStepped, HasSteppedBack, arrival_at, watching, watching_stop}

-- ---- one step

pub stepped_first : (b c : LineView) (hart count : ℕ) → count ≡ counts_of b.stands.machine hart → IsFirstWith c hart (count + 1) →
    HasStepped b c hart (arrival_at hart Led)
stepped_first b c hart count e first = inl (refl, subst (λ (n : ℕ). IsFirstWith c hart (n + 1)) e first)

pub stepped_none : (b c : LineView) (hart count : ℕ) → count ≡ counts_of b.stands.machine hart → c ≡ b → NoMomentWith b hart (count + 1) →
    HasStepped b c hart (arrival_at hart AtEnd)
stepped_none b c hart count e same none = inr (refl, same, subst (λ (n : ℕ). NoMomentWith b hart (n + 1)) e none)

pub back_led : (b c : LineView) (hart count : ℕ) → count ≡ counts_of b.stands.machine hart → IsBeforeStep c hart count → HasSteppedBack b c hart (arrival_at hart Led)
back_led b c hart count e before = inl (refl, subst (λ (n : ℕ). IsBeforeStep c hart n) e before)

pub back_none : (b c : LineView) (hart count : ℕ) → count ≡ counts_of b.stands.machine hart → c ≡ b → count ≡ 0 → HasSteppedBack b c hart (arrival_at hart AtBegin)
back_none b c hart count e same none = inr (inl (refl, same, rw (sym e) none))

-- a hart's count is that of a moment
pub is_some_moment : (b c : LineView) (hart count now : ℕ) → count ≡ counts_of b.stands.machine hart → (c ≡ b) × NoMomentWith b hart count →
    IsAt c.legs c.start now c.stands.machine → ⊥
is_some_moment b c hart count now e none at =
    let there : IsAt b.legs b.start now b.stands.machine = subst (λ (t : LineView). IsAt t.legs t.start now t.stands.machine) none.0 at in
    let less = none.1 now b.stands.machine there in
    absurd (omega (arith, e, less))

pub back_begun : (b c : LineView) (hart count now : ℕ) (there : Bool) → count ≡ counts_of b.stands.machine hart → c.stands.moment ≡ 0 →
    (there ≡ true → IsFirstWith c hart count) → (there ≡ false → (c ≡ b) × NoMomentWith b hart count) → IsAt c.legs c.start now c.stands.machine →
    HasSteppedBack b c hart (arrival_at hart AtBegin)
back_begun b c hart count now true e begins first none at = inr (inr (refl, begins, subst (λ (n : ℕ). IsFirstWith c hart n) e (first refl)))
back_begun b c hart count now false e begins first none at = absurd (is_some_moment b c hart count now e (none refl) at)

-- ---- to a point

behind_point : (point : Option Point) (c b : ℕ) → c < b → c + watching point ≤ b
behind_point None c b less = omega (arith, less)
behind_point (Some (Break address)) c b less = omega (arith, less)
behind_point (Some (Watch watched bytes)) c b less = omega (arith, less)

-- behind a step that is watched there is a moment, where it goes back
pub behind_within : (points : List Point) (b c : LineView) (stop : Stop) → HasStoppedBack points b c stop → c.stands.moment + watching_stop points stop ≤ b.stands.moment
behind_within points b c (At number) stopped = behind_point (slice_get points number) _ _ stopped.0
behind_within points b c End stopped = absurd stopped
behind_within points b c Begin stopped = omega (arith, stopped.0)
