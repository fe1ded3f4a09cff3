-- From lease to lease, and from round to round.
use Rattle.std.proofs.Common.{◌≡◌, ℕ, zero, suc, ◌<◌, ◌≤◌, ◌++◌, max, List, [], ◌∷◌, length, slice_get, slice_set, Some, Bool, true, false, refl, sym, ap}
use Rattle.std.proofs.Common.{subst, ◌∙◌, inl, inr, arith, append_assoc, append-nil}
use Rattle.std.proofs.lemmas.Grind.{common_steps}
use Rattle.rv32_hart.specs.Hart.{Hart}
use Rattle.ft_types.specs.Counts.{count_at}
use Rattle.input_log.specs.Inputs.{inputs_of}
use Rattle.input_log.specs.Notes.{notes_of}
use Rattle.input_log.proofs.Notings.{notes_more_on}
use Rattle.book_modes.specs.declared.keep.Keep.TheVariants as told
use Rattle.hart_lease.specs.declared.stretch.Stretch.{Stretch}
use Rattle.hart_lease.specs.Runs.{counts_of, steps_taken}
use Rattle.page_book.specs.Books.{BookView}
use Rattle.book_modes.specs.Recordings.{RecordingView}
use Rattle.lease_rounds.specs.Leading.{IsHeld, GoesFor, RoundsFor}
use Rattle.lease_rounds.specs.machinery.StepsLeft.{steps_left}
use Rattle.lease_rounds.proofs.GoingOn.{HasGoneOn, AsFar, has_gone_on, has_fewer, round_far}
use Rattle.page_book.proofs.Later.{adds_nothing, adds_on}
use Rattle.page_book.proofs.Tellings.{hears_nothing, hears_more, notes_kept}
use Rattle.lease_rounds.specs.Running.{IsIdle, AreThrough, IsThrough, Continues, GoWithin, recording, NoRound, OneMore, KeepsOffered, KeepHeld}
use Rattle.lease_rounds.specs.machinery.SoFar.{HasRun, IsSoFar}
use Rattle.lease_rounds.proofs.Leasing.{ahead, limits, notes, continues, offered, keep_held}
use Rattle.lease_rounds.proofs.Offered.{offered_itself, offered_on}

-- ---- a book goes on

pub continues_none : (b : BookView RecordingView) → Continues b b
continues_none b = record {
  start = refl;
  harts = refl;
  journal = ([], sym (append-nil b.journal));
  inputs = λ hart. hears_nothing (inputs_of b.mode.inputs hart) (counts_of b.machine hart) (inputs_of b.mode.inputs hart) refl;
  edges = adds_nothing b.mode.edges (counts_of b.machine) b.mode.edges refl;
  notes = notes_kept b b refl;
}

pub continues_on : (b c d : BookView RecordingView) → ((hart : ℕ) → counts_of b.machine hart ≤ counts_of c.machine hart) → Continues b c → Continues c d → Continues b d
continues_on b c d counts p q =
    record {
      start = q.start ∙ p.start;
      harts = q.harts ∙ p.harts;
      journal =
          let (first, is_first) = p.journal in
          let (second, is_second) = q.journal in
          (first ++ second, is_second ∙ ap (λ (x : List Stretch). x ++ second) is_first ∙ append_assoc b.journal first second);
      inputs = λ hart.
          hears_more (inputs_of b.mode.inputs hart) (counts_of b.machine hart) (inputs_of c.mode.inputs hart) (counts_of c.machine hart)
          (inputs_of d.mode.inputs hart) (counts hart) (p.inputs hart) (q.inputs hart);
      edges =
          adds_on b.mode.edges (counts_of b.machine) c.mode.edges (counts_of c.machine) d.mode.edges counts p.edges q.edges;
      notes = λ hart.
          notes_more_on (notes_of b.mode.notes hart) (notes_of c.mode.notes hart) (notes_of d.mode.notes hart) (counts_of b.machine hart)
          (counts_of c.machine hart) (counts hart) (p.notes hart) (q.notes hart);
    }

within_none : (b : BookView RecordingView) → GoWithin b b
within_none b = λ hart. (omega arith, omega arith)

within_on : (b c d : BookView RecordingView) → c.mode.limits ≡ b.mode.limits → GoWithin b c → GoWithin c d → GoWithin b d
within_on b c d limits p q = λ hart.
    let first = p hart in
    let second =
    subst
    (λ (row : List ℕ). (counts_of c.machine hart ≤ counts_of d.machine hart) × (counts_of d.machine hart ≤ max (count_at row hart) (counts_of c.machine hart)))
    limits (q hart) in
    (omega (arith, first.0, second.0), omega (arith, first.1, second.1))

-- ---- a lease

-- the counts of the harts, one of which has gone on
set_counts : (harts : List Hart) (hart : ℕ) (h after : Hart) (limit other : ℕ) → slice_get harts hart ≡ Some h → h.count < after.count →
    (other ≡ hart → after.count ≤ limit) →
    (steps_taken (slice_get harts other) ≤ steps_taken (slice_get (slice_set harts hart after) other)) ×
    (steps_taken (slice_get (slice_set harts hart after) other) ≤ max limit (steps_taken (slice_get harts other)))
set_counts [] hart h after limit other there lt le = cc
set_counts (x ∷ harts) zero h after limit zero there lt le =
    let same : x.count ≡ h.count = ap steps_taken there in
    let end = le refl in (omega (arith, same, lt), omega (arith, end))
set_counts (x ∷ harts) zero h after limit (suc other) there lt le = (omega arith, omega arith)
set_counts (x ∷ harts) (suc hart) h after limit zero there lt le = (omega arith, omega arith)
set_counts (x ∷ harts) (suc hart) h after limit (suc other) there lt le = set_counts harts hart h after limit other there lt (λ e. le (ap suc e))

-- the book goes on from the other, and has fewer steps to go
pub record IsFurther (b c : BookView RecordingView) : Type 0 where
  pub idle : IsIdle c
  pub limits : c.mode.limits ≡ b.mode.limits
  pub notes : c.mode.notes ≡ b.mode.notes
  pub continues : Continues b c
  pub counts : GoWithin b c
  pub fewer : steps_left b.mode.limits c.machine.harts < steps_left b.mode.limits b.machine.harts
  pub offered : KeepsOffered b c
  pub held : KeepHeld b c

further : (most : ℕ) → 0 < most → (hart : ℕ) (b d : BookView RecordingView) → IsIdle b → GoesFor recording most told.All hart b d → IsFurther b d
further most lasts hart b d idle on =
    let gone : HasGoneOn recording hart b d = has_gone_on recording told.All hart b d on ahead idle lasts in
    let counts : GoWithin b d = λ other.
    subst
    (λ (hs : List Hart). (counts_of b.machine other ≤ steps_taken (slice_get hs other)) ×
    (steps_taken (slice_get hs other) ≤ max (count_at b.mode.limits other) (counts_of b.machine other))) (sym gone.harts)
    (set_counts b.machine.harts hart gone.before gone.after (count_at b.mode.limits other) other gone.there gone.further
    (λ e. subst (λ (n : ℕ). gone.after.count ≤ count_at b.mode.limits n) (sym e) gone.within)) in
    record {
      idle = on.idle;
      limits = limits told.All hart b d on;
      notes = notes told.All hart b d on;
      continues = continues told.All hart b d on gone.start;
      counts = counts;
      fewer = has_fewer recording hart b d gone;
      offered = offered told.All hart b d on (λ other. (counts other).0);
      held = keep_held hart b d on;
    }

further_on : (b c d : BookView RecordingView) → IsFurther b c → IsFurther c d → IsFurther b d
further_on b c d p q =
    record {
      idle = q.idle;
      limits = q.limits ∙ p.limits;
      notes = q.notes ∙ p.notes;
      continues = continues_on b c d (λ hart. (p.counts hart).0) p.continues q.continues;
      counts = within_on b c d p.limits p.counts q.counts;
      offered = offered_on b c d p.offered q.offered;
      held = λ page held. q.held page (p.held page held);
      fewer =
          let first = p.fewer in
          let second =
          subst (λ (row : List ℕ). steps_left row d.machine.harts < steps_left row c.machine.harts) p.limits q.fewer in
          omega (arith, first, second);
    }

-- ---- rounds

through : (b : BookView RecordingView) (hart : ℕ) → IsHeld recording b hart → IsThrough b hart
through b hart held h there = elim (held h there) [
  | inl halted ↦ inl halted
  | inr other ↦ elim other [
    | inl past ↦ inr past
    | inr unmet ↦ absurd (grind (arith, common_steps, unmet))
  ]
]

pub begins : (most : ℕ) (b : BookView RecordingView) → IsIdle b → HasRun b → IsSoFar most b b
begins most b idle ran =
    record {
      ran = ran;
      idle = idle;
      limits = refl;
      notes = refl;
      continues = continues_none b;
      rounds = NoRound;
      offered = offered_itself b;
      counts = within_none b;
      held = λ page held. held;
    }

leads_on : (most : ℕ) (a b c : BookView RecordingView) → IsSoFar most a b → IsFurther b c →
    RoundsFor recording most told.All b true (length b.machine.harts) c → IsSoFar most a c
leads_on most a b c p q round =
    record {
      ran = p.ran;
      idle = q.idle;
      limits = q.limits ∙ p.limits;
      notes = q.notes ∙ p.notes;
      continues = continues_on a b c (λ hart. (p.counts hart).0) p.continues q.continues;
      rounds = OneMore c p.rounds round;
      offered = offered_on a b c p.offered q.offered;
      counts = within_on a b c p.limits p.counts q.counts;
      held = λ page held. q.held page (p.held page held);
    }

some_below : (harts : List Hart) (hart : ℕ) (h : Hart) → slice_get harts hart ≡ Some h → hart < length harts
some_below [] hart h there = cc
some_below (x ∷ harts) zero h there = omega arith
some_below (x ∷ harts) (suc hart) h there = let rest = some_below harts hart h there in omega (arith, rest)

module _ (most : ℕ) (lasts : 0 < most) (a b c : BookView RecordingView) (so_far : IsSoFar most a b) (went : Bool)
    (rounds : RoundsFor recording most told.All b went (length b.machine.harts) c) where
  far : AsFar recording most told.All IsFurther (further most lasts) further_on b went (length b.machine.harts) c
  far = round_far recording most told.All IsFurther (further most lasts) further_on b so_far.idle went (length b.machine.harts) c rounds

  -- a round in which a hart went
  round_more : went ≡ true → IsFurther b c
  round_more is = subst (λ (w : Bool). AsFar recording most told.All IsFurther (further most lasts) further_on b w (length b.machine.harts) c) is far

  pub round_on : went ≡ true → IsSoFar most a c
  round_on is = leads_on most a b c so_far (round_more is) (subst (λ (w : Bool). RoundsFor recording most told.All b w (length b.machine.harts) c) is rounds)

  pub round_nearer : went ≡ true → steps_left c.mode.limits c.machine.harts < steps_left b.mode.limits b.machine.harts
  round_nearer is =
      let more = round_more is in
      subst (λ (row : List ℕ). steps_left row c.machine.harts < steps_left b.mode.limits b.machine.harts) (sym more.limits) more.fewer

  -- one in which none did
  pub round_last : went ≡ false → (c ≡ b) × AreThrough c
  round_last is =
      let last = subst (λ (w : Bool). AsFar recording most told.All IsFurther (further most lasts) further_on b w (length b.machine.harts) c) is far in (
        last.0,
        subst (λ (x : BookView RecordingView). AreThrough x) (sym last.0)
            (λ hart h there. through b hart (last.1 hart (some_below b.machine.harts hart h there)) h there),
      )

  pub round_end : went ≡ false → IsSoFar most a c
  round_end is = subst (λ (x : BookView RecordingView). IsSoFar most a x) (sym (round_last is).0) so_far
