-- Why a timeline stopped, case by case.
use Rattle.std.specs.Prelude.{ℕ, ◌≡◌, ◌+◌, ◌<◌, ◌≤◌, List, Option, Some, None}
use Rattle.moments.specs.declared.points.Point.{Point}
use Rattle.moments.specs.declared.points.Stop.{Stop}
use Rattle.moments.specs.declared.points.Stop.TheVariants.{At, End, Begin}
use Rattle.plan_lines.specs.Line.{LineView, IsAtEnd}
use Rattle.moments.specs.Points.{HoldsAt, HitsAt, IsOne, NoneFrom}

-- it went on to the first later moment at which a point holds; or to the end, where none does
abbrev pub HasStopped : List Point → LineView → LineView → Stop → Type 0
HasStopped points b c (At number) =
    (b.stands.moment < c.stands.moment) × IsOne HoldsAt points b c.stands.moment number × NoneFrom HoldsAt points b (b.stands.moment + 1) c.stands.moment
HasStopped points b c End = IsAtEnd c × NoneFrom HoldsAt points b (b.stands.moment + 1) (c.stands.moment + 1)
HasStopped points b c Begin = ⊥

-- of the moments from where it stands and before the end the last one that is hit, by the point with this number; or none is
abbrev pub LastHit : List Point → LineView → ℕ → Option (ℕ × ℕ) → Type 0
LastHit points b end None = NoneFrom HitsAt points b b.stands.moment end
LastHit points b end (Some (moment, number)) =
    (b.stands.moment ≤ moment) × (moment < end) × IsOne HitsAt points b moment number × NoneFrom HitsAt points b (moment + 1) end

-- it went back to the last earlier moment that is hit; or to the beginning, where none is
abbrev pub HasStoppedBack : List Point → LineView → LineView → Stop → Type 0
HasStoppedBack points b c (At number) =
    (c.stands.moment < b.stands.moment) × IsOne HitsAt points b c.stands.moment number × NoneFrom HitsAt points b (c.stands.moment + 1) b.stands.moment
HasStoppedBack points b c End = ⊥
HasStoppedBack points b c Begin = (c.stands.moment ≡ 0) × NoneFrom HitsAt points b 0 b.stands.moment
