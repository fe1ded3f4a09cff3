-- A line that is led on.
use Rattle.std.proofs.Common.{◌≡◌, ℕ, ◌<◌, ◌≤◌, ◌+◌, Bool, true, false, refl, ap, subst, sym, ◌∙◌}
use Rattle.plan_lines.specs.Line.{LineView, GetsStuck, HasGoneOn, IsAtEnd, steps_of}
use Rattle.hart_replay.specs.declared.fault.ReplayFault.{ReplayFault}
use Rattle.debugging.specs.Sessions.{IsOfLine, IsFirstWith, IsBeforeStep}

pub led_on : (b c : LineView) → c ≡ record b { stands = c.stands } → IsOfLine b c
led_on b c e = record { guest = ap (λ (t : LineView). t.guest) e; legs = ap (λ (t : LineView). t.legs) e; start = ap (λ (t : LineView). t.start) e }

-- one that stays where it is
pub stays : (b c : LineView) → c ≡ b → IsOfLine b c
stays b c e = record { guest = ap (λ (t : LineView). t.guest) e; legs = ap (λ (t : LineView). t.legs) e; start = ap (λ (t : LineView). t.start) e }

-- and one that is led on twice
pub goes_on : (a b c : LineView) → IsOfLine a b → IsOfLine b c → IsOfLine a c
goes_on a b c p q = record { guest = q.guest ∙ p.guest; legs = q.legs ∙ p.legs; start = q.start ∙ p.start }

-- one step before the first moment with so many steps
pub before_step : (t b : LineView) (hart count now : ℕ) → IsFirstWith t hart count → b ≡ record t { stands = b.stands } → now ≡ t.stands.moment →
    b.stands.moment + 1 ≡ now → IsBeforeStep b hart count
before_step t b hart count now first line at there = (
  t,
  record {
    guest = sym (ap (λ (x : LineView). x.guest) line);
    legs = sym (ap (λ (x : LineView). x.legs) line);
    start = sym (ap (λ (x : LineView). x.start) line);
  },
  first,
  there ∙ at,
)

-- one that took a step, or none at its end
pub stepped_on : (b c : LineView) (went : Bool) → (went ≡ true → HasGoneOn b c 1) → (went ≡ false → (c ≡ b) × IsAtEnd b) → IsOfLine b c
stepped_on b c true on at = led_on b c (on refl).0
stepped_on b c false on at = stays b c (at refl).0

-- it has the moments that it had
pub within : (b c : LineView) (moment : ℕ) → IsOfLine b c → moment ≤ steps_of b.legs → moment ≤ steps_of c.legs
within b c moment same few = rw same.legs few

-- a line that gets stuck once it is led on got stuck before
pub stuck_before : (b c : LineView) (f : ReplayFault) → c ≡ record b { stands = c.stands } → GetsStuck c f → GetsStuck b f
stuck_before b c f e stuck = let same : GetsStuck (record b { stands = c.stands }) f = subst (λ (t : LineView). GetsStuck t f) e stuck in same
