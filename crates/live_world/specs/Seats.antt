-- The primaries, by the order in which their terms were granted.
use Rattle.std.specs.Prelude.{◌≡◌, ℕ, List, [], ◌∷◌, slice_get, None, Some}
use Rattle.leading.specs.Leaders.{LeaderView}
use Rattle.process_world.specs.Worlds.{Led, led_as}
use Rattle.live_world.specs.declared.seat.Seat.{Seat}
use Rattle.live_world.specs.declared.seat.Seat.TheVariants.{Runs, Ended}

abbrev pub term_of : Seat → ℕ
term_of (Runs l) = l.primary.opening.term
term_of (Ended term) = term

-- the term is that of a seat
abbrev pub IsGrantedIn : List Seat → ℕ → Type 0
IsGrantedIn led term = (n : ℕ) × (s : Seat) × (slice_get led n ≡ Some s) × (term_of s ≡ term)

-- no primary of the number runs
abbrev pub RunsNot : List Seat → ℕ → Type 0
RunsNot led n = (l : LeaderView) → slice_get led n ≡ Some (Runs l) → ⊥

-- the seat is that of a primary that was granted; where its process is gone, of that its term is known
abbrev pub IsSeatOf : Seat → Led → Type 0
IsSeatOf (Runs l) led = led ≡ led_as l
IsSeatOf (Ended term) led = (led.leader ≡ None) × (led.opening.term ≡ term)

abbrev pub AreSeatsOf : List Seat → List Led → Type 0
AreSeatsOf [] [] = Unit {0}
AreSeatsOf (s ∷ seats) (l ∷ led) = IsSeatOf s l × AreSeatsOf seats led
AreSeatsOf [] (l ∷ led) = ⊥
AreSeatsOf (s ∷ seats) [] = ⊥
