-- A book that is led on, lease by lease.
use Rattle.std.proofs.Common.{◌≡◌, ◌<◌, ◌≤◌, ◌+◌, ℕ, length, Bool, true, false, Result, Ok, Err, IfOk, OnErr, refl, sym, ap, subst, ◌∙◌, inl, inr, arith}
use Rattle.std.proofs.lemmas.Bool.{cases_lt}
use Rattle.ft_types.specs.declared.errors.Memory.{Memory}
use Rattle.guest_image.specs.Machine.{MachineState}
use Rattle.book_modes.specs.declared.keep.Keep.TheVariants as told
use Rattle.book_modes.specs.declared.mode.Leg.{Leg}
use Rattle.page_book.specs.Books.{BookView}
use Rattle.hart_lease.proofs.steps.LackedRights.{step_counts}
use Rattle.lease_rounds.specs.machinery.StepsLeft.{steps_left}
use Rattle.lease_rounds.specs.Leading.{IsIdle, HasNotGone, Goes, GoesOn}
use Rattle.lease_rounds.proofs.Filling.{HasFilled, has_filled}
use Rattle.hart_replay.specs.Leading.{IsHeld}
use Rattle.hart_replay.proofs.rounds.Leases.{replaying, IsFurther, further, filled_mode, held}
use Rattle.warm_backup.specs.machinery.Leading.{AreHeld, IsLater, IsNearer}

pub later_same : (b : BookView Leg) → IsIdle b → IsLater b b
later_same b idle = record { start = refl; mode = refl; idle = idle; harts = refl }

pub later_on : (b c d : BookView Leg) → IsLater b c → IsLater c d → IsLater b d
later_on b c d p q = record { start = q.start ∙ p.start; mode = q.mode ∙ p.mode; idle = q.idle; harts = q.harts ∙ p.harts }

pub nearer_on : (b c d : BookView Leg) → IsLater b c → IsNearer b c → IsNearer c d → IsNearer b d
nearer_on b c d later p q =
    let first = p.fewer in
    let second = subst (λ (leg : Leg). steps_left leg.ends d.machine.harts < steps_left leg.ends c.machine.harts) later.mode q.fewer in
    record { fewer = omega (arith, first, second) }

-- a hart went on for a lease
pub went_later : (hart : ℕ) (b d : BookView Leg) → IsIdle b → GoesOn replaying told.Nothing hart b d → IsLater b d
went_later hart b d idle on =
    let f : IsFurther b d = further hart b d idle on in record { start = f.start; mode = f.mode; idle = f.idle; harts = f.harts }

pub went_nearer : (hart : ℕ) (b d : BookView Leg) → IsIdle b → GoesOn replaying told.Nothing hart b d → IsNearer b d
went_nearer hart b d idle on = record { fewer = (further hart b d idle on).fewer }

-- it could not, or its lease was given up
pub not_gone_later : (hart : ℕ) (b d : BookView Leg) → IsIdle b → IsIdle d → HasNotGone replaying hart b d → IsLater b d
not_gone_later hart b d idle now (inl same) = subst (λ (x : BookView Leg). IsLater b x) (sym same) (later_same b idle)
not_gone_later hart b d idle now (inr up) =
    let filled : HasFilled up.opened up.lease up.leaves.filled up.leaves.lease =
    has_filled replaying up.opened up.lease step_counts up.leaves.filled up.leaves.lease up.leaves.fills in
    let machine : d.machine ≡ b.machine =
    ap (λ (x : BookView Leg). x.machine) up.leaves.ends.book ∙ (ap (λ (x : BookView Leg). x.machine) filled.book ∙
    ap (λ (x : BookView Leg). x.machine) up.lends.book) in
    record {
      start =
          ap (λ (x : BookView Leg). x.start) up.leaves.ends.book ∙ (ap (λ (x : BookView Leg). x.start) filled.book ∙
          ap (λ (x : BookView Leg). x.start) up.lends.book);
      mode = up.leaves.ends.mode ∙ (filled_mode up.opened up.lease up.leaves.filled up.leaves.lease up.leaves.fills ∙ up.lends.mode.0);
      idle = now;
      harts = ap (λ (m : MachineState). length m.harts) machine;
    }

-- ---- a round

-- what is known of the book once so many harts had their turn
pub record IsRound (b : BookView Leg) (went : Bool) (number : ℕ) (c : BookView Leg) : Type 0 where
  pub later : IsLater b c
  pub nearer : went ≡ true → IsNearer b c
  pub same : went ≡ false → c ≡ b
  pub held : went ≡ false → (hart : ℕ) → hart < number → IsHeld b hart

pub round_begins : (b : BookView Leg) → IsIdle b → IsRound b false 0 b
round_begins b idle =
    record { later = later_same b idle; nearer = λ e. cc; same = λ e. refl; held = λ e hart lt. absurd (omega (arith, lt)) }

-- the next hart went
pub round_went : (b : BookView Leg) (went : Bool) (number : ℕ) (c d : BookView Leg) → IsRound b went number c → IsLater c d → IsNearer c d →
    IsRound b true (number + 1) d
round_went b went number c d r later fewer =
    record { later = later_on b c d r.later later; nearer = λ e. of went r; same = λ e. cc; held = λ e. cc }
  where
    of : (went : Bool) → IsRound b went number c → IsNearer b d
    of true r = nearer_on b c d r.later (r.nearer refl) fewer
    of false r = subst (λ (x : BookView Leg). IsNearer x d) (r.same refl) fewer

-- it stood
pub round_stood : (b : BookView Leg) (went : Bool) (number : ℕ) (c d : BookView Leg) → IsRound b went number c → d ≡ c → IsHeld c number →
    IsRound b went (number + 1) d
round_stood b went number c d r same is_held =
    subst (λ (x : BookView Leg). IsRound b went (number + 1) x) (sym same)
    (record {
      later = r.later;
      nearer = r.nearer;
      same = r.same;
      held =
          λ e hart lt.
          elim (cases_lt hart number) [
            | inl earlier ↦ r.held e hart earlier
            | inr last ↦
                (let is : number ≡ hart = omega (arith, lt, last) in
                subst (λ (k : ℕ). IsHeld b k) is (subst (λ (x : BookView Leg). IsHeld x number) (r.same e) is_held))
          ];
    })

pub round_held : (b : BookView Leg) (went : Bool) (number : ℕ) (c : BookView Leg) → IsRound b went number c → length c.machine.harts ≤ number →
    went ≡ false → AreHeld c
round_held b went number c r all e =
    subst (λ (x : BookView Leg). AreHeld x) (sym (r.same e))
    (λ hart within.
    let less = subst (λ (x : BookView Leg). length x.machine.harts ≤ number) (r.same e) all in r.held e hart (omega (arith, within, less)))

-- ---- what leading a hart answers

module _ (hart : ℕ) (b d : BookView Leg) (idle : IsIdle b) (now : IsIdle d) where
  pub answer_later : (r : Result Bool Memory) → IfOk r (λ went. Goes replaying told.Nothing went hart b d) → OnErr r (HasNotGone replaying hart b d) → IsLater b d
  answer_later (Ok true) goes not = went_later hart b d idle goes
  answer_later (Ok false) goes not = subst (λ (x : BookView Leg). IsLater b x) (sym goes.0) (later_same b idle)
  answer_later (Err fault) goes not = not_gone_later hart b d idle now not

  pub answer_nearer : (r : Result Bool Memory) → IfOk r (λ went. Goes replaying told.Nothing went hart b d) → IfOk r (λ went. went ≡ true → IsNearer b d)
  answer_nearer (Ok true) goes = λ e. went_nearer hart b d idle goes
  answer_nearer (Ok false) goes = λ e. cc
  answer_nearer (Err fault) goes = tt

  pub answer_same : (r : Result Bool Memory) → IfOk r (λ went. Goes replaying told.Nothing went hart b d) → IfOk r (λ went. (went ≡ true → ⊥) → d ≡ b)
  answer_same (Ok true) goes = λ no. absurd (no refl)
  answer_same (Ok false) goes = λ no. goes.0
  answer_same (Err fault) goes = tt

  pub answer_held : (r : Result Bool Memory) → hart < length b.machine.harts → IfOk r (λ went. Goes replaying told.Nothing went hart b d) →
      IfOk r (λ went. (went ≡ true → ⊥) → IsHeld b hart)
  answer_held (Ok true) within goes = λ no. absurd (no refl)
  answer_held (Ok false) within goes = λ no. held b hart within goes.1
  answer_held (Err fault) within goes = tt
