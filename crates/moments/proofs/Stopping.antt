-- Where a timeline stops, step by step.
use Rattle.std.proofs.Common.{◌≡◌, inl, inr, ℕ, ◌+◌, ◌-◌, ◌<◌, ◌≤◌, Bool, true, false, List, Option, Some, None, IfSome, IfNone, refl, ap, sym, subst, ◌∙◌, arith}
use Rattle.std.proofs.lemmas.Bool.{cases_lt}
use Rattle.moments.specs.declared.points.Point.{Point}
use Rattle.plan_lines.specs.Line.{LineView, IsAtEnd, HasGoneOn, steps_of}
use Rattle.moments.specs.Points.{BreaksAt, WatchesAt, HoldsAt, HitsAt, IsOne, NoneFrom}
use Rattle.moments.specs.declared.points.Stop.TheVariants.{At, End, Begin}
use Rattle.moments.specs.Stops.{HasStopped, HasStoppedBack, LastHit}

-- ---- the same line

-- the second is the first, elsewhere on its line
abbrev pub IsElsewhere : LineView → LineView → Type 0
IsElsewhere b c = c ≡ record b { stands = c.stands }

pub line_on : (a b c : LineView) → IsElsewhere a b → IsElsewhere b c → IsElsewhere a c
line_on a b c first second = second ∙ ap (λ (u : LineView). record u { stands = c.stands }) first

pub line_kept : (a b c : LineView) → IsElsewhere a b → c ≡ b → IsElsewhere a c
line_kept a b c first same = subst (λ (u : LineView). IsElsewhere a u) (sym same) first

-- one step, or none at the end
pub line_forward : (a b c : LineView) (went : Bool) → IsElsewhere a b → (went ≡ true → HasGoneOn b c 1) → (went ≡ false → (c ≡ b) × IsAtEnd b) →
    IsElsewhere a c
line_forward a b c true first on end = line_on a b c first (on refl).0
line_forward a b c false first on end = line_kept a b c first (end refl).0

pub moment_forward : (b c : LineView) (went : Bool) (target : ℕ) → (went ≡ true → HasGoneOn b c 1) → (went ≡ false → b.stands.moment ≡ steps_of b.legs) →
    b.stands.moment < target → target ≤ steps_of b.legs → c.stands.moment ≡ b.stands.moment + 1
moment_forward b c true target on all lt le = (on refl).1
moment_forward b c false target on all lt le = let is = all refl in absurd (omega (arith, is, lt, le))

pub same_steps : (a b : LineView) → IsElsewhere a b → steps_of b.legs ≡ steps_of a.legs
same_steps a b on = ap (λ (u : LineView). steps_of u.legs) on

-- one step nearer to the end
pub nearer : (b c : LineView) (went : Bool) → went ≡ true → (went ≡ true → HasGoneOn b c 1) → (went ≡ true → b.stands.moment < steps_of b.legs) →
    steps_of c.legs - c.stands.moment < steps_of b.legs - b.stands.moment
nearer b c went goes on room =
    let gone = on goes in
    let one = gone.1 in
    let lt = room goes in
    let same = same_steps b c gone.0 in
    omega (arith, one, lt, same)

-- ---- points

-- what holds of a line, wherever it stands
module _ (points : List Point) (a b : LineView) (on : IsElsewhere a b) where
  pub one_break : (moment number : ℕ) → IsOne BreaksAt points b moment number → IsOne BreaksAt points a moment number
  one_break moment number = subst (λ (u : LineView). IsOne BreaksAt points u moment number → IsOne BreaksAt points a moment number) (sym on) (λ h. h)

  pub one_watch : (moment number : ℕ) → IsOne WatchesAt points b moment number → IsOne WatchesAt points a moment number
  one_watch moment number = subst (λ (u : LineView). IsOne WatchesAt points u moment number → IsOne WatchesAt points a moment number) (sym on) (λ h. h)

  pub one_hit : (moment number : ℕ) → IsOne HitsAt points b moment number → IsOne HitsAt points a moment number
  one_hit moment number = subst (λ (u : LineView). IsOne HitsAt points u moment number → IsOne HitsAt points a moment number) (sym on) (λ h. h)

  pub none_break : (first end : ℕ) → NoneFrom BreaksAt points b first end → NoneFrom BreaksAt points a first end
  none_break first end = subst (λ (u : LineView). NoneFrom BreaksAt points u first end → NoneFrom BreaksAt points a first end) (sym on) (λ h. h)

  pub none_watch : (first end : ℕ) → NoneFrom WatchesAt points b first end → NoneFrom WatchesAt points a first end
  none_watch first end = subst (λ (u : LineView). NoneFrom WatchesAt points u first end → NoneFrom WatchesAt points a first end) (sym on) (λ h. h)

  pub none_hit : (first end : ℕ) → NoneFrom HitsAt points b first end → NoneFrom HitsAt points a first end
  none_hit first end = subst (λ (u : LineView). NoneFrom HitsAt points u first end → NoneFrom HitsAt points a first end) (sym on) (λ h. h)

-- no moment is between
pub none_between : (Holds : LineView → ℕ → Point → Type 0) (points : List Point) (a : LineView) (first end : ℕ) → end ≤ first → NoneFrom Holds points a first end
none_between Holds points a first end le = λ moment from below point has holds. absurd (omega (arith, from, below, le))

-- none before a moment, and none from it on
pub none_more : (Holds : LineView → ℕ → Point → Type 0) (points : List Point) (a : LineView) (first middle end : ℕ) →
    NoneFrom Holds points a first middle → NoneFrom Holds points a middle end → NoneFrom Holds points a first end
none_more Holds points a first middle end before after = λ moment from below point has holds.
    elim (cases_lt moment middle) [
      | inl lt ↦ before moment from lt point has holds
      | inr le ↦ after moment le below point has holds
    ]

-- forwards: the step to a moment is not watched, and none of the points is where the next one is
pub none_holds : (points : List Point) (a : LineView) (moment : ℕ) → NoneFrom WatchesAt points a moment (moment + 1) →
    NoneFrom BreaksAt points a (moment + 1) (moment + 1 + 1) → NoneFrom HoldsAt points a (moment + 1) (moment + 1 + 1)
none_holds points a moment watched broken = λ at from below point has holds.
    elim holds [
      | inl breaks ↦ broken at from below point has breaks
      | inr (before, is, watches) ↦ watched before (omega (arith, is, from)) (omega (arith, is, below)) point has watches
    ]

pub watched_holds : (points : List Point) (a : LineView) (moment number : ℕ) → IsOne WatchesAt points a moment number →
    IsOne HoldsAt points a (moment + 1) number
watched_holds points a moment number (point, at, watches) = (point, at, inr (moment, refl, watches))

pub broken_holds : (points : List Point) (a : LineView) (moment number : ℕ) → IsOne BreaksAt points a moment number → IsOne HoldsAt points a moment number
broken_holds points a moment number (point, at, breaks) = (point, at, inl breaks)

pub watched_hits : (points : List Point) (a : LineView) (moment number : ℕ) → IsOne WatchesAt points a moment number → IsOne HitsAt points a moment number
watched_hits points a moment number (point, at, watches) = (point, at, inr watches)

pub broken_hits : (points : List Point) (a : LineView) (moment number : ℕ) → IsOne BreaksAt points a moment number → IsOne HitsAt points a moment number
broken_hits points a moment number (point, at, breaks) = (point, at, inl breaks)

pub none_hits : (points : List Point) (a : LineView) (first end : ℕ) → NoneFrom BreaksAt points a first end → NoneFrom WatchesAt points a first end →
    NoneFrom HitsAt points a first end
none_hits points a first end broken watched = λ moment from below point has hits.
    elim hits [
      | inl breaks ↦ broken moment from below point has breaks
      | inr watches ↦ watched moment from below point has watches
    ]

-- the last hit so far is it one moment later too, where that one is not hit
pub last_more : (points : List Point) (a : LineView) (end : ℕ) (last : Option (ℕ × ℕ)) → LastHit points a end last →
    NoneFrom HitsAt points a end (end + 1) → LastHit points a (end + 1) last
last_more points a end None so_far none = none_more HitsAt points a a.stands.moment end (end + 1) so_far none
last_more points a end (Some (moment, number)) (from, below, one, later) none =
    (from, omega (arith, below), one, none_more HitsAt points a (moment + 1) end (end + 1) later none)

-- the last hit, once one moment more was looked at
pub last_next : (points : List Point) (a b : LineView) (last : Option (ℕ × ℕ)) (hit : Option ℕ) (noted : Option (ℕ × ℕ)) → IsElsewhere a b →
    a.stands.moment ≤ b.stands.moment → LastHit points a b.stands.moment last → IfSome hit (IsOne HitsAt points b b.stands.moment) →
    IfNone hit (NoneFrom HitsAt points b b.stands.moment (b.stands.moment + 1)) → IfSome hit (λ number. noted ≡ Some (b.stands.moment, number)) →
    IfNone hit (noted ≡ last) → LastHit points a (b.stands.moment + 1) noted
last_next points a b last None noted on le so_far some none is was =
    subst (λ (o : Option (ℕ × ℕ)). LastHit points a (b.stands.moment + 1) o) (sym was)
    (last_more points a b.stands.moment last so_far (none_hit points a b on b.stands.moment (b.stands.moment + 1) none))
last_next points a b last (Some number) noted on le so_far some none is was =
    subst (λ (o : Option (ℕ × ℕ)). LastHit points a (b.stands.moment + 1) o) (sym is) (
      le,
      omega arith,
      one_hit points a b on b.stands.moment number some,
      none_between HitsAt points a (b.stands.moment + 1) (b.stands.moment + 1) (omega arith),
    )

-- ---- forwards

-- so far no point holds
pub record IsClear (points : List Point) (a b : LineView) : Type 0 where
  pub line : IsElsewhere a b
  pub later : a.stands.moment ≤ b.stands.moment
  pub none : NoneFrom HoldsAt points a (a.stands.moment + 1) (b.stands.moment + 1)

pub clear_begins : (points : List Point) (a : LineView) → IsClear points a a
clear_begins points a =
    record { line = refl; later = omega arith; none = none_between HoldsAt points a (a.stands.moment + 1) (a.stands.moment + 1) (omega arith) }

module _ (points : List Point) (a b n : LineView) (clear : IsClear points a b) (went : HasGoneOn b n 1) where
  line_next : IsElsewhere a n
  line_next = line_on a b n clear.line went.0

  before_next : NoneFrom HoldsAt points a (a.stands.moment + 1) n.stands.moment
  before_next = subst (λ (k : ℕ). NoneFrom HoldsAt points a (a.stands.moment + 1) k) (sym went.1) clear.none

  is_later : a.stands.moment < n.stands.moment
  is_later = let le = clear.later in let one = went.1 in omega (arith, le, one)

  pub stops_watched : (number : ℕ) → IsOne WatchesAt points b b.stands.moment number → HasStopped points a n (At number)
  stops_watched number one = (
    is_later,
    subst (λ (k : ℕ). IsOne HoldsAt points a k number) (sym went.1)
        (watched_holds points a b.stands.moment number (one_watch points a b clear.line b.stands.moment number one)),
    before_next,
  )

  pub stops_broken : (number : ℕ) → IsOne BreaksAt points n n.stands.moment number → HasStopped points a n (At number)
  stops_broken number one =
      (is_later, broken_holds points a n.stands.moment number (one_break points a n line_next n.stands.moment number one), before_next)

  pub clear_on : NoneFrom WatchesAt points b b.stands.moment (b.stands.moment + 1) →
      NoneFrom BreaksAt points n n.stands.moment (n.stands.moment + 1) → IsClear points a n
  clear_on watched broken =
      record {
        line = line_next;
        later = let lt = is_later in omega (arith, lt);
        none =
            none_more HoldsAt points a (a.stands.moment + 1) n.stands.moment (n.stands.moment + 1) before_next
            (subst (λ (k : ℕ). NoneFrom HoldsAt points a k (k + 1)) (sym went.1)
            (none_holds points a b.stands.moment (none_watch points a b clear.line b.stands.moment (b.stands.moment + 1) watched)
            (subst (λ (k : ℕ). NoneFrom BreaksAt points a k (k + 1)) went.1
            (none_break points a n line_next n.stands.moment (n.stands.moment + 1) broken))));
      }

pub stops_at_end : (points : List Point) (a b n : LineView) → IsClear points a b → n ≡ b → IsAtEnd b → HasStopped points a n End
stops_at_end points a b n clear same end =
    subst (λ (u : LineView). HasStopped points a u End) (sym same) (end, clear.none)

-- ---- backwards

-- so far no moment is hit
pub record IsClearFrom (points : List Point) (a b : LineView) (end : ℕ) : Type 0 where
  pub line : IsElsewhere a b
  pub before : end ≤ a.stands.moment
  pub none : NoneFrom HitsAt points a end a.stands.moment

pub back_begins : (points : List Point) (a : LineView) → IsClearFrom points a a a.stands.moment
back_begins points a =
    record { line = refl; before = omega arith; none = none_between HitsAt points a a.stands.moment a.stands.moment (omega arith) }

-- a stretch from where the line went back to was looked at
module _ (points : List Point) (a b n : LineView) (end : ℕ) (clear : IsClearFrom points a b end) (on : IsElsewhere b n) where
  pub back_on : (m : LineView) → IsElsewhere n m → n.stands.moment ≤ end → LastHit points n end None → IsClearFrom points a m n.stands.moment
  back_on m further le none =
      record {
        line = line_on a n m (line_on a b n clear.line on) further;
        before = let before = clear.before in omega (arith, le, before);
        none =
            none_more HitsAt points a n.stands.moment end a.stands.moment
            (none_hit points a n (line_on a b n clear.line on) n.stands.moment end none) clear.none;
      }

  pub stops_back : (c : LineView) (moment number : ℕ) → LastHit points n end (Some (moment, number)) → c.stands.moment ≡ moment →
      HasStoppedBack points a c (At number)
  stops_back c moment number (from, below, one, later) is =
      subst (λ (k : ℕ). (k < a.stands.moment) × IsOne HitsAt points a k number × NoneFrom HitsAt points a (k + 1) a.stands.moment) (sym is) (
        (let before = clear.before in omega (arith, below, before)),
        one_hit points a n (line_on a b n clear.line on) moment number one,
        none_more HitsAt points a (moment + 1) end a.stands.moment
            (none_hit points a n (line_on a b n clear.line on) (moment + 1) end later) clear.none,
      )

pub stops_at_begin : (points : List Point) (a b c : LineView) (end : ℕ) → IsClearFrom points a b end → end ≡ 0 → c.stands.moment ≡ 0 →
    HasStoppedBack points a c Begin
stops_at_begin points a b c end clear none first = (first, subst (λ (k : ℕ). NoneFrom HitsAt points a k a.stands.moment) none clear.none)
