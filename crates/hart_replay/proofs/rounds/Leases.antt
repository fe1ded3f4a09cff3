-- From lease to lease, and from round to round, of a book that obeys a leg.
use Rattle.std.proofs.Common.{◌≡◌, ℕ, ◌<◌, [], length, length-set, Option, Bool, true, false, refl, sym, ap, subst, ◌∙◌, inl, inr, arith}
use Rattle.ft_types.specs.declared.names.TheConstants.{LEASE_STEPS}
use Rattle.rv32_hart.specs.Hardware.{hardware}
use Rattle.guest_image.specs.Machine.{MachineState}
use Rattle.interleaving.specs.Stored.{halted_of}
use Rattle.edge_log.specs.EdgeLog.{edges_of}
use Rattle.book_modes.specs.declared.keep.Keep.TheVariants as told
use Rattle.book_modes.specs.declared.mode.Leg.{Leg}
use Rattle.book_modes.specs.declared.mode.Mode.{Ghosts}
use Rattle.page_book.specs.Books.{BookView}
use Rattle.hart_lease.specs.OpenLeases.{IsHolder, stands_against, OpenView, right_of}
use Rattle.hart_lease.specs.Leases.{LeaseView}
use Rattle.book_modes.specs.Obeying.{GoesOut, EachHears}
use Rattle.hart_lease.specs.Runs.{counts_of, steps_taken, heard_in}
use Rattle.lease_rounds.specs.Leading as rounds
use Rattle.lease_rounds.specs.Leading.{IsIdle, IsFreeAlone, Fills, NoneYet, Steps, Takes, GoesOn, Rounds}
use Rattle.lease_rounds.proofs.Lending.{hart_at}
use Rattle.lease_rounds.specs.machinery.StepsLeft.{steps_left}
use Rattle.lease_rounds.proofs.GoingOn.{IsAhead, HasGoneOn, AsFar, has_gone_on, has_fewer, round_far}
use Rattle.hart_replay.specs.declared.plans.PlannedLeg.{PlannedLeg}
use Rattle.hart_replay.specs.Leading.{IsHeld, IsLeading, leg_of, HasStopped}

-- replaying, as a mode
abbrev pub replaying : Ghosts Leg
replaying =
    record {
      stops = λ r. r.ends;
      obeyed = λ r. edges_of r.edges;
      heard = λ r. heard_in r.inputs;
      keeps = λ r start machine journal leases. EachHears (heard_in r.inputs) machine leases;
      lends = λ r hart count lent new. (new ≡ r) × GoesOut r hart count lent;
      is_holder = λ r leases asked other. IsHolder leases asked.hart asked.page asked.want other;
      owes = λ r settled asked found. found ≡ [];
      gives = λ r settled asked new. new ≡ r;
      settles = λ r lease keep new. new ≡ r;
      ends = λ r hart count taken new. new ≡ r;
      goes_on = λ r settled new now. new ≡ r;
    }

-- where no other lease is open, a page is free
pub free_alone : IsFreeAlone replaying
free_alone r leases asked none other holder =
    let no : false ≡ true = ap (λ (o : Option OpenView). stands_against (right_of o asked.page) asked.want) (sym (none other holder.0)) ∙ holder.1 in
    cc

pub ahead : IsAhead replaying
ahead r s hart count lent lt goes = (goes.1.stop.above, goes.1.stop.within)

-- ---- a lease

pub filled_mode : (b : BookView Leg) (l : LeaseView) (c : BookView Leg) (k : LeaseView) → Fills replaying b l c k → c.mode ≡ b.mode
filled_mode b l c k NoneYet = refl
filled_mode b l c k (Steps {c = now} {k = before} n fills room t) = filled_mode b l c before fills
filled_mode b l c k (Takes {c = before} {k = asker} d n fills room given) = given.mode ∙ filled_mode b l before asker fills

-- the book has fewer steps to go
pub record IsFurther (b c : BookView Leg) : Type 0 where
  pub start : c.start ≡ b.start
  pub mode : c.mode ≡ b.mode
  pub idle : IsIdle c
  pub harts : length c.machine.harts ≡ length b.machine.harts
  pub fewer : steps_left b.mode.ends c.machine.harts < steps_left b.mode.ends b.machine.harts

pub further : (hart : ℕ) (b d : BookView Leg) → IsIdle b → GoesOn replaying told.Nothing hart b d → IsFurther b d
further hart b d idle on =
    let gone : HasGoneOn replaying hart b d = has_gone_on replaying told.Nothing hart b d on ahead idle (omega arith) in
    record {
      start = gone.start;
      mode = on.leads.back.mode ∙ filled_mode on.opened on.lease on.leads.filled on.leads.lease on.leads.fills ∙ on.lends.mode.0;
      idle = on.idle;
      harts = ap length gone.harts ∙ length-set b.machine.harts hart gone.after;
      fewer = has_fewer replaying hart b d gone;
    }

further_on : (b c d : BookView Leg) → IsFurther b c → IsFurther c d → IsFurther b d
further_on b c d p q =
    record {
      start = q.start ∙ p.start;
      mode = q.mode ∙ p.mode;
      idle = q.idle;
      harts = q.harts ∙ p.harts;
      fewer =
          let first = p.fewer in
          let second =
          subst (λ (leg : Leg). steps_left leg.ends d.machine.harts < steps_left leg.ends c.machine.harts) p.mode q.fewer in
          omega (arith, first, second);
    }

-- ---- rounds

pub held : (b : BookView Leg) (hart : ℕ) → hart < length b.machine.harts → rounds.IsHeld replaying b hart → IsHeld b hart
held b hart within held_there =
    let (h, there) = hart_at b.machine.harts hart within in
    elim (held_there h there) [
      | inl halted ↦ inr (inl (ap (halted_of (hardware (length b.machine.pages))) there ∙ halted))
      | inr other ↦ elim other [
        | inl past ↦ inl (let count : counts_of b.machine hart ≡ h.count = ap steps_taken there in omega (arith, past, count))
        | inr unmet ↦ inr (inr unmet)
      ]
    ]

module _ (start : MachineState) (leg : Leg) (b c : BookView Leg) (leading : IsLeading start leg b) (went : Bool)
    (round : Rounds replaying told.Nothing b went (length b.machine.harts) c) where
  far : AsFar replaying LEASE_STEPS told.Nothing IsFurther further further_on b went (length b.machine.harts) c
  far = round_far replaying LEASE_STEPS told.Nothing IsFurther further further_on b leading.idle went (length b.machine.harts) c round

  -- a round in which a hart went
  more : went ≡ true → IsFurther b c
  more is = subst (λ (w : Bool). AsFar replaying LEASE_STEPS told.Nothing IsFurther further further_on b w (length b.machine.harts) c) is far

  pub leads_on : went ≡ true → IsLeading start leg c
  leads_on is =
      let q = more is in
      record { start = q.start ∙ leading.start; mode = q.mode ∙ leading.mode; idle = q.idle; harts = q.harts ∙ leading.harts }

  pub leads_nearer : went ≡ true → steps_left leg.ends c.machine.harts < steps_left leg.ends b.machine.harts
  leads_nearer is = subst (λ (l : Leg). steps_left l.ends c.machine.harts < steps_left l.ends b.machine.harts) leading.mode (more is).fewer

  -- one in which none did
  last : went ≡ false → (c ≡ b) × ((hart : ℕ) → hart < length b.machine.harts → rounds.IsHeld replaying b hart)
  last is = subst (λ (w : Bool). AsFar replaying LEASE_STEPS told.Nothing IsFurther further further_on b w (length b.machine.harts) c) is far

  pub all_held : went ≡ false → (c ≡ b) × ((hart : ℕ) → hart < length b.machine.harts → IsHeld b hart)
  all_held is = ((last is).0, λ hart within. held b hart within ((last is).1 hart within))

pub has_stopped : (start : MachineState) (leg : PlannedLeg) (b c : BookView Leg) (went : Bool) → IsLeading start (leg_of leg) b →
    Rounds replaying told.Nothing b went (length b.machine.harts) c → went ≡ false → HasStopped start leg c
has_stopped start leg b c went leading round none =
    let (same, are_held) = all_held start (leg_of leg) b c leading went round none in
    subst (λ (x : BookView Leg). HasStopped start leg x) (sym same) (record { leading = leading; held = are_held })
