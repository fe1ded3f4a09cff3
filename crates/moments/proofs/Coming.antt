-- A timeline on the way to a count of a hart.
use Rattle.std.proofs.Common.{◌≡◌, ℕ, ◌-◌, ◌<◌, ◌≤◌, Bool, true, false, arith}
use Rattle.guest_image.specs.Machine.{MachineState}
use Rattle.hart_lease.specs.Runs.{counts_of}
use Rattle.plan_lines.specs.Line.{LineView, IsAt, HasGoneOn, steps_of}
use Rattle.moments.proofs.Stopping.{IsElsewhere, line_on, nearer}
use Rattle.plan_lines.proofs.Rises.{AreFewer, LeadsThere, fewer_next, went_on}

-- it leads from the first to the second, and each earlier moment has fewer steps of the hart
pub record IsComing (a b : LineView) (hart count : ℕ) : Type 0 where
  pub line : IsElsewhere a b
  pub leads : LeadsThere b
  pub fewer : AreFewer b hart count
  pub none : b.stands.moment ≡ 0 → counts_of b.stands.machine hart ≤ count

-- one step more
pub record ComesNext (a b n : LineView) (hart count : ℕ) : Type 0 where
  pub coming : IsComing a n hart count
  pub nearer : steps_of n.legs - n.stands.moment < steps_of b.legs - b.stands.moment

pub comes_next : (a b n : LineView) (hart count end : ℕ) → IsComing a b hart count →
    ((m : MachineState) → IsAt a.legs a.start (steps_of a.legs) m → counts_of m hart ≡ end) → count ≤ end → counts_of b.stands.machine hart < count →
    (went : Bool) → (went ≡ true → HasGoneOn b n 1) → (went ≡ false → b.stands.moment ≡ steps_of b.legs) →
    (went ≡ true → b.stands.moment < steps_of b.legs) → LeadsThere n → ComesNext a b n hart count
comes_next a b n hart count end come all le less went on last room leads =
    let goes : went ≡ true = went_on a b hart count end come.line come.leads all le less went last in
    let gone = on goes in
    let one = gone.1 in
    record {
      coming =
          record {
            line = line_on a b n come.line gone.0;
            leads = leads;
            fewer = fewer_next b n hart count come.leads gone.0 one less;
            none = λ first. absurd (omega (arith, first, one));
          };
      nearer = nearer b n went goes on room;
    }
