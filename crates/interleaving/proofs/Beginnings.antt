-- More of schedules: each beginning stands at a cut of its own, and there is always a whole one.
use Rattle.std.proofs.Common.{◌≡◌, inl, inr, ℕ, ◌+◌, ◌<◌, ◌≤◌, min, List, [], ◌∷◌, ◌++◌, refl, sym, ap, subst, arith, le_trans, lt-ltb, le-ltb}
use Rattle.std.proofs.lemmas.Bool.{cases_lt}
use Rattle.interleaving.specs.Lists.{IsWithin}
use Rattle.interleaving.specs.Machine.{Machine, System, Turn, after, counts, step_of, run}
use Rattle.interleaving.specs.Log.{Edge, Log, IsCut, IsClosed, IsMet, Begins, counts_after, turns_of, bump}
use Rattle.interleaving.specs.Beginnings.{FrontBegins, Reached, EndsAreCuts, Extends, OwnOrder, order_at}
use Rattle.interleaving.proofs.Put.{same_or_not, put_same, bump_same, bump_other, bump_le}
use Rattle.interleaving.proofs.Order.{bump_closed}
use Rattle.interleaving.proofs.NextStep.{Rest, tail, counts_step}
use Rattle.interleaving.proofs.Runs.{counts_grow}
use Rattle.interleaving.proofs.Replay.{Followed, followed, confluence, rest_of}

pub counts_after_le : (now : ℕ → ℕ) (order : List ℕ) (hart : ℕ) → now hart ≤ counts_after now order hart
counts_after_le now [] hart = omega arith
counts_after_le now (next ∷ order) hart = le_trans (bump_le now next hart) (counts_after_le (bump now next) order hart)

begins_own : (edges : List Edge) (cut now : ℕ → ℕ) (order : List ℕ) → Begins edges cut now order →
    Begins edges (counts_after now order) now order
begins_own edges cut now [] b = tt
begins_own edges cut now (next ∷ order) b =
    let f : bump now next next ≡ now next + 1 = bump_same now next in
    let g : bump now next next ≤ counts_after (bump now next) order next = counts_after_le (bump now next) order next in
    (((omega arith), b.0.1), begins_own edges cut (bump now next) order b.1)

bump_fits : (cut now : ℕ → ℕ) (next : ℕ) → now next < cut next → ((hart : ℕ) → now hart ≤ cut hart) → (hart : ℕ) →
    bump now next hart ≤ cut hart
bump_fits cut now next less fits hart =
    elim (same_or_not next hart) [
      | inl same ↦
          let f : bump now next hart ≡ now next + 1 = put_same now next hart (now next + 1) same in
          let g : cut next ≡ cut hart = ap cut same in
          omega arith
      | inr ne ↦
          let f : bump now next hart ≡ now hart = bump_other now next hart ne in
          let g : now hart ≤ cut hart = fits hart in omega arith
    ]

counts_after_fit : (edges : List Edge) (cut now : ℕ → ℕ) (order : List ℕ) → Begins edges cut now order →
    ((hart : ℕ) → now hart ≤ cut hart) →
    (hart : ℕ) → counts_after now order hart ≤ cut hart
counts_after_fit edges cut now [] b fits = fits
counts_after_fit edges cut now (next ∷ order) b fits =
    counts_after_fit edges cut (bump now next) order b.1 (bump_fits cut now next b.0.0 fits)

closed_after : (edges : List Edge) (cut now : ℕ → ℕ) (order : List ℕ) → Begins edges cut now order →
    IsClosed edges now → IsClosed edges (counts_after now order)
closed_after edges cut now [] b closed = closed
closed_after edges cut now (next ∷ order) b closed =
    closed_after edges cut (bump now next) order b.1 (bump_closed edges now next closed b.0.1)

pub reached : {Hart Page Input : Type 0} (system : System Hart Page Input) → Reached system
reached system log m turns cut order honest is_cut begins = (
  own,
  (confluence system log m turns (counts_after log.start order) order honest own
      (begins_own log.edges cut log.start order begins)).outcome (λ hart. refl),
)
  where
    own : IsCut log (counts_after log.start order)
    own =
        record {
          from_start = counts_after_le log.start order;
          to_end =
              λ hart. le_trans (counts_after_fit log.edges cut log.start order begins is_cut.from_start hart)
              (is_cut.to_end hart);
          closed = closed_after log.edges cut log.start order begins honest.closed;
        }

module _ {Hart Page Input : Type 0} (system : System Hart Page Input) (log : Log Input) (cut : ℕ → ℕ) (closed : IsClosed log.edges cut) where
  -- what a whole schedule is from here on
  abbrev IsWhole : Machine Hart Page → List (Turn Input) → (ℕ → ℕ) → Type 0
  IsWhole m turns now =
      Begins log.edges cut now (order_at system m turns cut) ×
      ((hart : ℕ) → counts_after now (order_at system m turns cut) hart ≡ min
      (counts system (run system m turns) hart) (cut hart))

  met_inside : (edges : List Edge) (all now : ℕ → ℕ) (hart : ℕ) → IsClosed edges cut →
      ((h : ℕ) → now h ≡ min (all h) (cut h)) → all hart < cut hart → IsMet edges all hart → IsMet edges now hart
  met_inside edges all now hart closed is less met e is_edge here stands =
      let f : now hart ≡ min (all hart) (cut hart) = is hart in
      let g : now e.other ≡ min (all e.other) (cut e.other) = is e.other in
      let k : cut e.hart ≡ cut hart = ap cut here in
      let a : e.count ≤ all e.other = met e is_edge here (omega arith) in
      let b : e.count ≤ cut e.other = closed e is_edge (omega arith) in
      omega arith

  own_from : (m : Machine Hart Page) (turns : List (Turn Input)) (now : ℕ → ℕ) → Rest system log m turns →
      ((hart : ℕ) → now hart ≡ min (counts system m hart) (cut hart)) → IsWhole m turns now
  own_from m [] now r is = (tt, is)
  own_from m (a ∷ turns) now r is =
      elim (cases_lt (counts system m a.hart) (cut a.hart)) [
        | inl less ↦
            let n : now a.hart ≡ min (counts system m a.hart) (cut a.hart) = is a.hart in
            let rest =
            own_from (after m (step_of system m a)) turns (bump now a.hart) (tail system log m a turns r) (gone less) in
            rw (lt-ltb (counts system m a.hart) (cut a.hart) less) (
              (
                (
                  (omega arith),
                  met_inside log.edges
                      (counts system m) now a.hart closed is less r.met.0,
                ),
                rest.0,
              ),
              rest.1,
            )
        | inr over ↦
            rw (le-ltb (counts system m a.hart) (cut a.hart) over)
            (own_from (after m (step_of system m a)) turns now (tail system log m a turns r) (stayed over))
      ]
    where
      count_is : (hart : ℕ) → counts system (after m (step_of system m a)) hart ≡ bump (counts system m) a.hart hart
      count_is hart = ap (λ n. n hart) (counts_step system m a r.runs.0)

      gone : counts system m a.hart < cut a.hart → (hart : ℕ) →
          bump now a.hart hart ≡ min (counts system (after m (step_of system m a)) hart) (cut hart)
      gone less hart =
          elim (same_or_not a.hart hart) [
            | inl same ↦
                let f : bump now a.hart hart ≡ now a.hart + 1 = put_same now a.hart hart (now a.hart + 1) same in
                let g : bump (counts system m) a.hart hart ≡ counts system m a.hart + 1 =
                put_same (counts system m) a.hart hart (counts system m a.hart + 1) same in
                let n : now a.hart ≡ min (counts system m a.hart) (cut a.hart) = is a.hart in
                let k : cut a.hart ≡ cut hart = ap cut same in
                let c : counts system (after m (step_of system m a)) hart ≡
                bump (counts system m) a.hart hart = count_is hart in
                omega arith
            | inr ne ↦
                let f : bump now a.hart hart ≡ now hart = bump_other now a.hart hart ne in
                let g : bump (counts system m) a.hart hart ≡ counts system m hart =
                bump_other (counts system m) a.hart hart ne in
                let n : now hart ≡ min (counts system m hart) (cut hart) = is hart in
                let c : counts system (after m (step_of system m a)) hart ≡
                bump (counts system m) a.hart hart = count_is hart in
                omega arith
          ]

      stayed : cut a.hart ≤ counts system m a.hart → (hart : ℕ) →
          now hart ≡ min (counts system (after m (step_of system m a)) hart) (cut hart)
      stayed over hart =
          elim (same_or_not a.hart hart) [
            | inl same ↦
                let g : bump (counts system m) a.hart hart ≡ counts system m a.hart + 1 =
                put_same (counts system m) a.hart hart (counts system m a.hart + 1) same in
                let n : now hart ≡ min (counts system m hart) (cut hart) = is hart in
                let k : cut a.hart ≡ cut hart = ap cut same in
                let j : counts system m a.hart ≡ counts system m hart = ap (counts system m) same in
                let c : counts system (after m (step_of system m a)) hart ≡
                bump (counts system m) a.hart hart = count_is hart in
                omega arith
            | inr ne ↦
                let g : bump (counts system m) a.hart hart ≡ counts system m hart =
                bump_other (counts system m) a.hart hart ne in
                let n : now hart ≡ min (counts system m hart) (cut hart) = is hart in
                let c : counts system (after m (step_of system m a)) hart ≡
                bump (counts system m) a.hart hart = count_is hart in
                omega arith
          ]

pub own_order : {Hart Page Input : Type 0} (system : System Hart Page Input) → OwnOrder system
own_order system log m turns cut honest is_cut =
    let whole =
    own_from system log cut is_cut.closed m turns log.start (rest_of system log m turns honest)
    (λ hart.
    let a : log.start hart ≤ cut hart = is_cut.from_start hart in
    let b : log.start hart ≡ counts system m hart = honest.start hart in omega arith) in
    record {
      begins = whole.0;
      complete =
          λ hart.
          let a : cut hart ≤ log.end hart = is_cut.to_end hart in
          let b : log.end hart ≡ counts system (run system m turns) hart = honest.end hart in
          let c : counts_after log.start (order_at system m turns cut) hart ≡
          min (counts system (run system m turns) hart) (cut hart) = whole.1 hart in
          omega arith;
    }

pub front_begins : FrontBegins
front_begins edges cut now [] rest begins = tt
front_begins edges cut now (hart ∷ order) rest begins =
    (begins.0, front_begins edges cut (bump now hart) order rest begins.1)

begins_append : (edges : List Edge) (cut now : ℕ → ℕ) (order rest : List ℕ) → Begins edges cut now order →
    Begins edges cut (counts_after now order) rest → Begins edges cut now (order ++ rest)
begins_append edges cut now [] rest first second = second
begins_append edges cut now (hart ∷ order) rest first second =
    (first.0, begins_append edges cut (bump now hart) order rest first.1 second)

counts_after-append : (now : ℕ → ℕ) (order rest : List ℕ) →
    counts_after now (order ++ rest) ≡ counts_after (counts_after now order) rest
counts_after-append now [] rest = refl
counts_after-append now (hart ∷ order) rest = counts_after-append (bump now hart) order rest

pub extends : {Hart Page Input : Type 0} (system : System Hart Page Input) → Extends system
extends {Hart} {Page} {Input} system log m turns cut order honest is_cut begins = (
  rest,
  record {
    begins = begins_append log.edges cut log.start order rest begins whole.0;
    complete =
        λ hart.
        let a : cut hart ≤ log.end hart = is_cut.to_end hart in
        let b : log.end hart ≡ counts system (run system here f.left) hart = f.rest.end hart in
        let c : counts_after (counts_after log.start order) rest hart ≡
        min (counts system (run system here f.left) hart) (cut hart) = whole.1 hart in
        let d : counts_after log.start (order ++ rest) hart ≡ counts_after (counts_after log.start order) rest hart =
        ap (λ n. n hart) (counts_after-append log.start order rest) in
        omega arith;
  },
)
  where
    f : Followed system log m turns cut log.start order
    f = followed system log m turns cut order honest is_cut begins

    here : Machine Hart Page
    here = run system m (turns_of log.inputs log.start order)

    rest : List ℕ
    rest = order_at system here f.left cut

    whole : IsWhole system log cut is_cut.closed here f.left (counts_after log.start order)
    whole =
        own_from system log cut is_cut.closed here f.left (counts_after log.start order) f.rest
        (λ hart.
        let a : counts_after log.start order hart ≤ cut hart =
        counts_after_fit log.edges cut log.start order begins is_cut.from_start hart in
        let b : counts system here hart ≡ counts_after log.start order hart = ap (λ n. n hart) f.counts_are in
        omega arith)

closed_end : {Hart Page Input : Type 0} (system : System Hart Page Input) (log : Log Input) (m : Machine Hart Page)
    (turns : List (Turn Input)) →
    Rest system log m turns → IsClosed log.edges (counts system (run system m turns))
closed_end system log m [] r = r.closed
closed_end system log m (a ∷ turns) r =
    closed_end system log (after m (step_of system m a)) turns (tail system log m a turns r)

pub ends_are_cuts : {Hart Page Input : Type 0} (system : System Hart Page Input) → EndsAreCuts system
ends_are_cuts system log m turns honest = (
  record { from_start = λ hart. omega arith; to_end = grows; closed = honest.closed },
  record {
    from_start = grows;
    to_end = λ hart. omega arith;
    closed =
        subst (λ n. IsClosed log.edges n) (sym end) (closed_end system log m turns (rest_of system log m turns honest));
  },
)
  where
    end : log.end ≡ counts system (run system m turns)
    end = λ i hart. honest.end hart i

    grows : IsWithin log.start log.end
    grows hart =
        let a : log.start hart ≡ counts system m hart = honest.start hart in
        let b : log.end hart ≡ counts system (run system m turns) hart = honest.end hart in
        let c : counts system m hart ≤ counts system (run system m turns) hart =
        counts_grow system m turns honest.runs hart in
        omega arith
