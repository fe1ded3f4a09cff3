-- A replay of a log follows what is left of its interleaving: it runs, never gets stuck, and ends where that was.
use Rattle.std.proofs.Common.{◌≡◌, ◌≢◌, ◌⊎◌, inl, inr, ℕ, ◌<◌, ◌≤◌, false, List, [], ◌∷◌, filter, refl, sym, ap, subst, ◌∙◌, arith, lt-ltb, le-ltb, le_trans}
use Rattle.std.proofs.lemmas.Bool.{cases_lt}
use Rattle.interleaving.specs.Machine.{Machine, System, Turn, after, after_all, counts, step_of, steps, inside, Runs, run, at}
use Rattle.interleaving.specs.Log.{Log, IsClosed, IsMet, EachMet, IsHonest, IsCut, MayGo, Begins, counts_after, turns_of, GoesOn, Confluence, bump}
use Rattle.interleaving.proofs.Put.{same_or_not, put_other, bump_other, bump_le}
use Rattle.interleaving.proofs.Removal.{Pulled, pulled_filter}
use Rattle.interleaving.proofs.Stuck.{stuck_cannot_go_on}
use Rattle.interleaving.proofs.NextStep.{Rest, next, turn_of, tail, goes, advance, pull, counts_step}

module _ {Hart Page Input : Type 0} (system : System Hart Page Input) (log : Log Input) where
  -- after these harts have gone, something is left of the interleaving, and its machine at the cut is the same
  pub record Followed (m : Machine Hart Page) (turns : List (Turn Input)) (cut now : ℕ → ℕ) (order : List ℕ) : Type 0 where
    pub left : List (Turn Input)
    pub runs : Runs system m (turns_of log.inputs now order)
    pub rest : Rest system log (run system m (turns_of log.inputs now order)) left
    pub at_cut : at system m turns cut ≡ at system (run system m (turns_of log.inputs now order)) left cut
    pub counts_are : counts system (run system m (turns_of log.inputs now order)) ≡ counts_after now order

  -- the first hart goes, and then the others
  follow_one : (m : Machine Hart Page) (turns left : List (Turn Input)) (cut : ℕ → ℕ) (hart : ℕ) (order : List ℕ) →
      Rest system log m turns →
      counts system m hart < cut hart →
      Pulled (next system log m hart) (steps system m turns) (steps system (after m (next system log m hart)) left) →
      Followed (after m (next system log m hart)) left cut (bump (counts system m) hart) order →
      Followed m turns cut (counts system m) (hart ∷ order)
  follow_one m turns left cut hart order r below p f =
      record {
        left = f.left;
        runs = (goes system log m turns left hart r p, f.runs);
        rest = f.rest;
        at_cut =
            pulled_filter (next system log m hart) (inside system cut)
            (lt-ltb (counts system m hart) (cut hart) below) p m ∙ f.at_cut;
        counts_are = f.counts_are;
      }

  pub follow : (m : Machine Hart Page) (turns : List (Turn Input)) (cut : ℕ → ℕ) (order : List ℕ) →
      Rest system log m turns →
      ((hart : ℕ) → cut hart ≤ log.end hart) → Begins log.edges cut (counts system m) order →
      Followed m turns cut (counts system m) order
  follow m turns cut [] r fits b = record { left = turns; runs = tt; rest = r; at_cut = refl; counts_are = refl }
  follow m turns cut (hart ∷ order) r fits b =
      let below : counts system m hart < log.end hart = let top : cut hart ≤ log.end hart = fits hart in
      let under : counts system m hart < cut hart = b.0.0 in
      omega arith in
      let (left, p) = pull system log m turns hart r below b.0.1 in
      let now-is : counts system (after m (next system log m hart)) ≡ bump (counts system m) hart =
      counts_step system m (turn_of system log m hart) (goes system log m turns left hart r p) in
      follow_one m turns left cut hart order r b.0.0 p
      (
      subst (λ n. Followed (after m (next system log m hart)) left cut n order) now-is
      (
      follow (after m (next system log m hart)) left cut order (advance system log m turns left hart r b.0.1 p) fits
      (subst (λ n. Begins log.edges cut n order) (sym now-is) b.1)
      )
      )

  -- no step of an interleaving is inside a cut that it began at
  pub none_inside : (m : Machine Hart Page) (turns : List (Turn Input)) (cut : ℕ → ℕ) → Runs system m turns →
      ((hart : ℕ) → cut hart ≤ counts system m hart) →
      at system m turns cut ≡ m
  none_inside m turns cut runs reached = ap (after_all m) (none m turns runs reached)
    where
      none : (m : Machine Hart Page) (turns : List (Turn Input)) → Runs system m turns →
          ((hart : ℕ) → cut hart ≤ counts system m hart) → filter (inside system cut) (steps system m turns) ≡ []
      none m [] runs reached = refl
      none m (a ∷ turns) runs reached =
          rw (le-ltb (counts system m a.hart) (cut a.hart) (reached a.hart))
          (
          none (after m (step_of system m a)) turns runs.1
          (λ hart. subst (λ n. cut hart ≤ n hart) (sym (counts_step system m a runs.0))
          (le_trans (reached hart) (bump_le (counts system m) a.hart hart)))
          )

  -- what may go towards a closed cut once a hart that has reached it goes on, may go before
  go_before : (cut now : ℕ → ℕ) (passed next : ℕ) → IsClosed log.edges cut → cut passed ≤ now passed →
      MayGo log.edges cut (bump now passed) next → (passed ≢ next) × MayGo log.edges cut now next
  go_before cut now passed next closed over (under, met) = (ne, (less, still))
    where
      ne : passed ≢ next
      ne e =
          let f : cut next ≤ now next = subst (λ n. cut n ≤ now n) e over in
          let g : now next ≤ bump now passed next = bump_le now passed next in
          omega arith

      same : bump now passed next ≡ now next
      same = bump_other now passed next ne

      less : now next < cut next
      less = subst (λ n. n < cut next) same under

      still : IsMet log.edges now next
      still e is_edge here stands = either (same_or_not passed e.other)
        where
          either : (passed ≡ e.other) ⊎ (passed ≢ e.other) → e.count ≤ now e.other
          either (inl is_other) =
              let f : cut e.other ≤ now e.other = subst (λ n. cut n ≤ now n) is_other over in
              let g : now e.hart ≡ now next = ap now here in
              let k : cut e.hart ≡ cut next = ap cut here in
              let j : e.count ≤ cut e.other = closed e is_edge (omega (arith, less)) in
              omega arith
          either (inr apart) =
              subst (λ n. e.count ≤ n) (bump_other now passed e.other apart) (met e is_edge here (stands ∙ sym same))

  -- while a hart is below the cut, the first step that is left inside it may go
  pub progress : (m : Machine Hart Page) (turns : List (Turn Input)) (cut : ℕ → ℕ) → Rest system log m turns →
      IsClosed log.edges cut →
      ((hart : ℕ) → cut hart ≤ log.end hart) → (below : ℕ) → counts system m below < cut below →
      GoesOn system log.edges cut (counts system m) m
  progress m [] cut r closed fits below under =
      let top : cut below ≤ log.end below = fits below in
      let e : log.end below ≡ counts system m below = r.end below in
      absurd (omega arith)
  progress m (a ∷ turns) cut r closed fits below under =
      elim (cases_lt (counts system m a.hart) (cut a.hart)) [
        | inl less ↦ (a.hart, (less, r.met.0), r.runs.0)
        | inr over ↦
            let ne : a.hart ≢ below =
            λ e. let f : cut below ≤ counts system m below =
            subst (λ n. cut n ≤ counts system m n) e over in omega arith in
            let (next, may, runs) =
            progress (after m (step_of system m a)) turns cut (tail system log m a turns r) closed fits below
            (subst (λ n. n below < cut below) (sym (counts_step system m a r.runs.0))
            (subst (λ n. n < cut below) (sym (bump_other (counts system m) a.hart below ne)) under)) in
            let (apart, go) =
            go_before cut (counts system m) a.hart next closed over
            (subst (λ n. MayGo log.edges cut n next) (counts_step system m a r.runs.0) may) in (
              next,
              go,
              subst (λ h. system.halted h ≡ false)
                  (put_other m.harts a.hart next (step_of system m a).effect.hart apart) runs,
            )
      ]

-- an honest log's interleaving, as a replay finds it at the start
pub rest_of : {Hart Page Input : Type 0} (system : System Hart Page Input) (log : Log Input) (m : Machine Hart Page)
    (turns : List (Turn Input)) → IsHonest system log m turns → Rest system log m turns
rest_of system log m turns honest =
    record {
      runs = honest.runs;
      inputs = honest.inputs;
      end = honest.end;
      closed = subst (λ n. IsClosed log.edges n) start honest.closed;
      met = subst (λ n. EachMet log.edges n (steps system m turns)) start honest.met;
      ordered = honest.ordered;
    }
  where
    start : log.start ≡ counts system m
    start = λ i hart. honest.start hart i

-- a replay of an honest log follows its interleaving from the start
pub followed : {Hart Page Input : Type 0} (system : System Hart Page Input) (log : Log Input) (m : Machine Hart Page)
    (turns : List (Turn Input)) (cut : ℕ → ℕ) (order : List ℕ) → IsHonest system log m turns → IsCut log cut →
    Begins log.edges cut log.start order → Followed system log m turns cut log.start order
followed system log m turns cut order honest is_cut begins =
    subst (λ n. Followed system log m turns cut n order) (sym start)
    (
    follow system log m turns cut order (rest_of system log m turns honest) is_cut.to_end
    (subst (λ n. Begins log.edges cut n order) start begins)
    )
  where
    start : log.start ≡ counts system m
    start = λ i hart. honest.start hart i

-- the theorem
pub confluence : {Hart Page Input : Type 0} (system : System Hart Page Input) → Confluence system
confluence {Hart} {Page} {Input} system log m turns cut order honest is_cut begins =
    record {
      runs = f.runs;
      outcome =
          λ complete.
          sym (f.at_cut ∙ none_inside system log after_order f.left cut f.rest.runs (λ hart.
          let e : counts system after_order hart ≡ cut hart = here hart ∙ complete hart in omega arith));
      goes_on = goes_on;
      not_stuck =
          λ stuck.
          stuck_cannot_go_on system log.edges cut (counts_after log.start order) after_order stuck
          (goes_on stuck.below.0 stuck.below.1);
    }
  where
    f : Followed system log m turns cut log.start order
    f = followed system log m turns cut order honest is_cut begins

    after_order : Machine Hart Page
    after_order = run system m (turns_of log.inputs log.start order)

    here : (hart : ℕ) → counts system after_order hart ≡ counts_after log.start order hart
    here hart = ap (λ n. n hart) f.counts_are

    goes_on : (hart : ℕ) → counts_after log.start order hart < cut hart →
        GoesOn system log.edges cut (counts_after log.start order) after_order
    goes_on hart under =
        subst (λ n. GoesOn system log.edges cut n after_order) f.counts_are
        (
        progress system log after_order f.left cut f.rest is_cut.closed is_cut.to_end hart
        (subst (λ n. n < cut hart) (sym (here hart)) under)
        )
