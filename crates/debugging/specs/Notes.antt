-- What a session notes: points, and the harts of which more is asked or that are led.
use Rattle.std.specs.Prelude.{◌≡◌, ℕ, Bool, true, false, if◌then◌else◌, List, [], ◌∷◌, length, codes}
use Rattle.moments.specs.declared.points.Point.{Point}
use Rattle.debugging.specs.declared.numbers.Thread.{Thread}
use Rattle.debugging.specs.declared.numbers.Thread.TheVariants.{Any}
use Rattle.debugging.specs.declared.commands.Note.{Note}
use Rattle.debugging.specs.declared.commands.Note.TheVariants.{Choose, IsThere, Insert, Remove}
use Rattle.debugging.specs.Asked.{IsThread, IsOfHart, IsOfNone}
use Rattle.debugging.specs.Points.{IsPoint, points_with, points_without, has_room}
use Rattle.debugging.specs.Sessions.{SessionView}

-- the session's machine has so many harts
abbrev pub harts_of : SessionView → ℕ
harts_of s = length s.line.stands.machine.harts

-- of this hart more is asked
abbrev pub with_shown : SessionView → ℕ → SessionView
with_shown s hart = record { line = s.line; shown = hart; led = s.led; points = s.points }

-- this hart is led
abbrev pub with_led : SessionView → ℕ → SessionView
with_led s hart = record { line = s.line; shown = s.shown; led = hart; points = s.points }

abbrev pub with_points : SessionView → List Point → SessionView
with_points s points = record { line = s.line; shown = s.shown; led = s.led; points = points }

-- of the thread's hart more is asked where the kind is `g`, and it is led where it is `c`; of another kind it is not
pub record HasChosen (kind hart : ℕ) (s t : SessionView) (is_right : Bool) : Type 0 where
  pub shown : kind ≡ 103 → (is_right ≡ true) × (t ≡ with_shown s hart)
  pub led : kind ≡ 99 → (is_right ≡ true) × (t ≡ with_led s hart)
  pub other : (kind ≡ 103 → ⊥) → (kind ≡ 99 → ⊥) → (is_right ≡ false) × (t ≡ s)

abbrev pub is_any : Thread → Bool
is_any Any = true
is_any _ = false

-- it was noted, and was right or not
abbrev pub HasNoted : Note → SessionView → SessionView → Bool → Type 0
HasNoted (Choose kind thread) s t is_right =
    ((hart : ℕ) → IsOfHart (harts_of s) thread hart → HasChosen kind hart s t is_right) ×
    (IsOfNone (harts_of s) thread → (is_right ≡ is_any thread) × (t ≡ s))
HasNoted (IsThere thread) s t is_right =
    (t ≡ s) × ((hart : ℕ) → IsOfHart (harts_of s) thread hart → is_right ≡ true) × (IsOfNone (harts_of s) thread → is_right ≡ false)
HasNoted (Insert point) s t is_right = (is_right ≡ has_room point s.points) × (t ≡ with_points s (points_with point s.points))
HasNoted (Remove point) s t is_right = (is_right ≡ true) × (t ≡ with_points s (points_without point s.points))

-- `OK`, or that it is wrong
abbrev pub told : Bool → List ℕ
told is_right = if is_right then codes "OK" else codes "E02"

-- `H K T`, `T T`, `Z P` and `z P`
abbrev pub AsksToNote : List ℕ → Note → Type 0
AsksToNote packet (Choose kind thread) = (named : List ℕ) × (packet ≡ 72 ∷ kind ∷ named) × IsThread named thread
AsksToNote packet (IsThere thread) = (named : List ℕ) × (packet ≡ 84 ∷ named) × IsThread named thread
AsksToNote packet (Insert point) = (text : List ℕ) × (packet ≡ 90 ∷ text) × IsPoint text point
AsksToNote packet (Remove point) = (text : List ℕ) × (packet ≡ 122 ∷ text) × IsPoint text point
