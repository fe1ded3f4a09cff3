-- From lease to lease, and from round to round.
use Rattle.std.proofs.Common.{◌≡◌, ℕ, zero, suc, ◌+◌, ◌-◌, ◌<◌, ◌≤◌, List, [], ◌∷◌, length, length-set, slice_get, slice_set, Option, None, Some, Bool, true}
use Rattle.std.proofs.Common.{false, refl, sym, ap, subst, ◌∙◌, inl, inr, arith, le_trans}
use Rattle.std.proofs.lemmas.Bool.{cases_lt}
use Rattle.rv32_hart.specs.Hart.{Hart}
use Rattle.ft_types.specs.Counts.{count_at}
use Rattle.guest_image.specs.Machine.{MachineState}
use Rattle.book_modes.specs.declared.keep.Keep.{Keep}
use Rattle.book_modes.specs.declared.mode.Mode.{Ghosts}
use Rattle.page_book.specs.Books.{BookView, refusal}
use Rattle.hart_lease.specs.Leases.{LeaseView, IsFull, whole_in}
use Rattle.hart_lease.specs.OpenLeases.{OpenView, LentView}
use Rattle.hart_lease.specs.Runs.{counts_of, steps_taken}
use Rattle.hart_lease.proofs.steps.LackedRights.{step_counts}
use Rattle.lease_rounds.specs.Leading.{IsIdle, GoesFor, IsHeld, MayGoFor, RoundsFor, NoHart, Went, Stood, lent_as}
use Rattle.lease_rounds.specs.machinery.StepsLeft.{steps_left}
use Rattle.lease_rounds.proofs.Filling.{HasFilled, HasGone, has_filled}
use Rattle.lease_rounds.proofs.Lending.{idle_at, lent_runs}

-- ---- a lease

-- a hart that goes on has fewer steps to go
fewer_left : (stops : List ℕ) (harts : List Hart) (hart : ℕ) (h after : Hart) → slice_get harts hart ≡ Some h → h.count < after.count →
    after.count ≤ count_at stops hart → steps_left stops (slice_set harts hart after) < steps_left stops harts
fewer_left [] harts hart h after there lt le = absurd (omega arith)
fewer_left (stop ∷ stops) [] hart h after there lt le = cc
fewer_left (stop ∷ stops) (x ∷ harts) zero h after there lt le =
    let same : x ≡ h = cc in omega (arith, ap (λ (y : Hart). y.count) same)
fewer_left (stop ∷ stops) (x ∷ harts) (suc hart) h after there lt le =
    let rest = fewer_left stops harts hart h after there lt le in omega (arith, rest)

full_before : (l k : LeaseView) → k.present ≡ l.present → k.steps ≡ l.steps → k.most ≡ l.most → k.stop ≡ l.stop → k.base ≡ l.base → IsFull k → IsFull l
full_before l k present steps most stop base full =
    let count : k.present.count ≡ l.present.count = ap (λ (h : Hart). h.count) present in
    elim full [
      | inl many ↦ inl (omega (arith, steps, most, many))
      | inr rest ↦ inr (elim rest [
        | inl past ↦ inl (omega (arith, count, stop, past))
        | inr other ↦ inr (elim other [
          | inl halted ↦ inl (ap (λ (h : Hart). h.halted) (sym present) ∙ halted)
          | inr rang ↦ inr (λ e. rang (ap (λ (h : Hart). h.rung) present ∙ e ∙ sym (ap (λ (h : Hart). h.rung) base)))
        ])
      ])
    ]

-- a lease that had room, and is full, has gone on
went_on : (l k : LeaseView) → (IsFull l → ⊥) → IsFull k → k.base ≡ l.base → k.most ≡ l.most → k.stop ≡ l.stop → HasGone l k →
    (l.present.count < k.present.count) × (k.present.count ≤ l.stop)
went_on l k room full base most stop gone = elim gone [
  | inl same ↦ absurd (room (full_before l k same.0 same.1 most stop base full))
  | inr on ↦ (on.0, omega (arith, stop, on.1))
]

module _ {M : Type 0} (g : Ghosts M) where
  -- a hart is lent to go one step at least, and no further than its stop
  abbrev pub IsAhead : Type 0
  IsAhead =
      (r s : M) (hart count : ℕ) (lent : LentView) → count < count_at (g.stops r) hart → g.lends r hart count lent s →
      (count < lent.stop) × (lent.stop ≤ count_at (g.stops r) hart)

  -- a hart's lease led from the first book to the second
  pub record HasGoneOn (hart : ℕ) (b d : BookView M) : Type 0 where
    pub start : d.start ≡ b.start
    pub before : Hart
    pub there : slice_get b.machine.harts hart ≡ Some before
    pub after : Hart
    pub harts : d.machine.harts ≡ slice_set b.machine.harts hart after
    pub further : before.count < after.count
    pub within : after.count ≤ count_at (g.stops b.mode) hart

  module _ (keep : Keep) (hart : ℕ) (b d : BookView M) {most : ℕ} (on : GoesFor g most keep hart b d) where
    abbrev l : LeaseView
    l = on.lease

    abbrev k : LeaseView
    k = on.leads.lease

    abbrev filled : BookView M
    filled = on.leads.filled

    pub own : on.lease.hart ≡ hart
    own = ap (λ (x : LeaseView). x.hart) on.lends.lent

    pub lease_filled : HasFilled on.opened on.lease on.leads.filled on.leads.lease
    lease_filled = has_filled g on.opened l step_counts filled k on.leads.fills

    -- the machine as it was, until the lease comes back
    pub same_machine : on.leads.filled.machine ≡ b.machine
    same_machine = ap (λ (x : BookView M). x.machine) lease_filled.book ∙ ap (λ (x : BookView M). x.machine) on.lends.book

    -- the hart, with all its outputs
    pub state_after : Hart
    state_after = (whole_in on.leads.filled.machine on.leads.lease).present

    -- but for these, it is the lease's
    pub after_rung : state_after.rung ≡ on.leads.lease.present.rung
    unfolding state_after
    after_rung = refl

    pub after_count : state_after.count ≡ on.leads.lease.present.count
    unfolding state_after
    after_count = refl

    pub harts_are : d.machine.harts ≡ slice_set b.machine.harts hart state_after
    unfolding state_after
    harts_are =
        ap (λ (m : MachineState). m.harts) on.leads.back.machine
        ∙ ap (λ (m : MachineState). slice_set m.harts k.hart state_after) same_machine
        ∙ ap (λ (h : ℕ). slice_set b.machine.harts h state_after) (lease_filled.hart ∙ own)

    pub harts_stay : length d.machine.harts ≡ length b.machine.harts
    harts_stay = ap length harts_are ∙ length-set b.machine.harts hart state_after

  module _ (keep : Keep) (hart : ℕ) (b d : BookView M) {most : ℕ} (on : GoesFor g most keep hart b d) where
    abbrev its : HasFilled on.opened on.lease on.leads.filled on.leads.lease
    its = lease_filled keep hart b d on

    module _ (ahead : IsAhead) (idle : IsIdle b) (lasts : 0 < most) where
      state : Hart
      state = on.lends.state

      runs : (on.lends.state.halted ≡ false) × (on.lends.state.count < count_at (g.stops b.mode) hart)
      runs =
          lent_runs on.lends.state (count_at (g.stops b.mode) hart)
          (subst (λ (o : Option OpenView). refusal o on.lends.state (count_at (g.stops b.mode) hart) ≡ None) (idle_at b idle hart) on.lends.unrefused)

      pub count_is : counts_of b.machine hart ≡ on.lends.state.count
      count_is = ap steps_taken on.lends.there

      pub from : on.lease.present.count ≡ on.lends.state.count
      from = ap (λ (x : LeaseView). x.present.count) on.lends.lent

      pub stop : (counts_of b.machine hart < on.lease.stop) × (on.lease.stop ≤ count_at (g.stops b.mode) hart)
      stop =
          let below = runs.1 in
          ahead b.mode on.opened.mode hart (counts_of b.machine hart) (lent_as on.lease) (omega (arith, below, count_is)) on.lends.mode

      room : IsFull on.lease → ⊥
      room full = elim full [
        | inl many ↦
            (let none : on.lease.steps ≡ 0 = ap (λ (x : LeaseView). x.steps) on.lends.lent in
            let some : on.lease.most ≡ most = ap (λ (x : LeaseView). x.most) on.lends.lent in
            omega (arith, many, none, some, lasts))
        | inr rest ↦ elim rest [
          | inl past ↦ (let above = stop.0 in omega (arith, past, from, above, count_is))
          | inr other ↦ elim other [
            | inl halted ↦ (let no : true ≡ false = sym halted ∙ ap (λ (x : LeaseView). x.present.halted) on.lends.lent ∙ runs.0 in cc)
            | inr rang ↦ rang (ap (λ (x : LeaseView). x.present.rung) on.lends.lent ∙ sym (ap (λ (x : LeaseView). x.base.rung) on.lends.lent))
          ]
        ]
      ]

      -- its hart took a step at least, and went no further than its stop
      pub went_far : (on.lease.present.count < on.leads.lease.present.count) × (on.leads.lease.present.count ≤ on.lease.stop)
      went_far = went_on on.lease on.leads.lease room on.leads.full its.base its.most its.stop its.gone

      pub has_gone_on : HasGoneOn hart b d
      unfolding state_after
      has_gone_on =
          let rises = went_far.0 in
          record {
            start = on.leads.back.start ∙ ap (λ (x : BookView M). x.start) its.book ∙ ap (λ (x : BookView M). x.start) on.lends.book;
            before = on.lends.state;
            there = on.lends.there;
            after = state_after keep hart b d on;
            harts = harts_are keep hart b d on;
            further = omega (arith, from, rises);
            within = le_trans went_far.1 stop.1;
          }

  -- the book has fewer steps to go
  pub has_fewer : (hart : ℕ) (b d : BookView M) → HasGoneOn hart b d → steps_left (g.stops b.mode) d.machine.harts < steps_left (g.stops b.mode) b.machine.harts
  has_fewer hart b d on =
      subst (λ (hs : List Hart). steps_left (g.stops b.mode) hs < steps_left (g.stops b.mode) b.machine.harts) (sym on.harts)
      (fewer_left (g.stops b.mode) b.machine.harts hart on.before on.after on.there on.further on.within)

-- ---- a round

module _ {M : Type 0} (g : Ghosts M) (most : ℕ) (keep : Keep) where
  -- the next hart went
  pub round_goes : (b c d : BookView M) (went now new : Bool) (n : ℕ) → now ≡ true → new ≡ true → RoundsFor g most keep b went n c → MayGoFor g most keep now n c d →
      RoundsFor g most keep b new (n + 1) d × (length d.machine.harts ≡ length c.machine.harts)
  round_goes b c d went now new n did is rounds goes =
      let on = subst (λ (x : Bool). MayGoFor g most keep x n c d) did goes in
      (subst (λ (x : Bool). RoundsFor g most keep b x (n + 1) d) (sym is) (Went d rounds on), harts_stay g keep n c d on)

  -- it did not
  pub round_stands : (b c d : BookView M) (went now new : Bool) (n : ℕ) → now ≡ false → new ≡ went → RoundsFor g most keep b went n c → MayGoFor g most keep now n c d →
      RoundsFor g most keep b new (n + 1) d × (length d.machine.harts ≡ length c.machine.harts)
  round_stands b c d went now new n stood is rounds goes =
      let held = subst (λ (x : Bool). MayGoFor g most keep x n c d) stood goes in (
        subst (λ (x : Bool). RoundsFor g most keep b x (n + 1) d) (sym is) (subst (λ (x : BookView M). RoundsFor g most keep b went (n + 1) x) (sym held.0)
            (Stood rounds held.1)),
        ap (λ (x : BookView M). length x.machine.harts) held.0,
      )

  -- what holds of each lease, and of two of which one goes on from the other, holds of a round in which a hart went; in another
  -- one nothing has changed, and no hart can go
  module _ (IsFurther : BookView M → BookView M → Type 0) (one : (hart : ℕ) (b c : BookView M) → IsIdle b → GoesFor g most keep hart b c → IsFurther b c)
      (on : (b c d : BookView M) → IsFurther b c → IsFurther c d → IsFurther b d) where
    abbrev pub AsFar : BookView M → Bool → ℕ → BookView M → Type 0
    AsFar b true harts c = IsFurther b c
    AsFar b false harts c = (c ≡ b) × ((hart : ℕ) → hart < harts → IsHeld g b hart)

    as_far : (b c d : BookView M) (went : Bool) (n : ℕ) → AsFar b went n c → IsFurther c d → IsFurther b d
    as_far b c d true n p q = on b c d p q
    as_far b c d false n p q = subst (λ (x : BookView M). IsFurther x d) p.0 q

    stands : (b c : BookView M) (went : Bool) (n : ℕ) → AsFar b went n c → IsHeld g c n → AsFar b went (n + 1) c
    stands b c true n p q = p
    stands b c false n p q = (
      p.0,
      λ hart lt.
          elim (cases_lt hart n) [
            | inl earlier ↦ p.1 hart earlier
            | inr last ↦
                (let is : n ≡ hart = omega (arith, lt, last) in
                subst (λ (k : ℕ). IsHeld g b k) is (subst (λ (x : BookView M). IsHeld g x n) p.0 q))
          ],
    )

    idle_still : (b : BookView M) → IsIdle b → (went : Bool) (n : ℕ) (c : BookView M) → RoundsFor g most keep b went n c → IsIdle c
    idle_still b idle went n c NoHart = idle
    idle_still b idle went n d (Went e rounds goes) = goes.idle
    idle_still b idle went n c (Stood {went = same} {n = m} rounds held) = idle_still b idle went m c rounds

    pub round_far : (b : BookView M) → IsIdle b → (went : Bool) (n : ℕ) (c : BookView M) → RoundsFor g most keep b went n c → AsFar b went n c
    round_far b idle went n c NoHart = (refl, λ hart lt. absurd (omega (arith, lt)))
    round_far b idle went n d (Went {went = before} {n = m} {c = c} e rounds goes) =
        as_far b c d before m (round_far b idle before m c rounds) (one m c d (idle_still b idle before m c rounds) goes)
    round_far b idle went n c (Stood {went = same} {n = m} rounds held) = stands b c went m (round_far b idle went m c rounds) held
