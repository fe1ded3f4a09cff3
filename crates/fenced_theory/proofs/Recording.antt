-- The books of the abstract machine are a recorder's.
use Rattle.std.proofs.Common.{◌≡◌, ◌⊎◌, inl, inr, ℕ, zero, suc, ◌+◌, ◌<◌, ◌≤◌, false, List, [], ◌∷◌, ◌++◌, filter, nat_lt, Some, refl, sym, ap, subst, ◌∙◌, arith, le_trans, lt-ltb, le-ltb, append_assoc}
use Rattle.std.specs.Prelude.{slice_get}
use Rattle.std.proofs.lemmas.Bool.{cases_lt}
use Rattle.interleaving.specs.Lists.{Each, EachPair}
use Rattle.interleaving.specs.Machine.{Machine, System, Turn, after, counts, step_of, Runs, run, at}
use Rattle.interleaving.specs.Log.{bump}
use Rattle.interleaving.proofs.Put.{same_or_not, put_same, put_other, bump_le}
use Rattle.interleaving.proofs.NextStep.{counts_step}
use Rattle.interleaving.proofs.AsItWas.{hart_as_it_was}
use Rattle.fenced_theory.specs.Recorders.{Output, Booted, Went, Revived}
use Rattle.fenced_theory.specs.Machines.{Outs, AreTidy, Book, RunsOn, BookFact, AtBoot, ByRun, AtCut, told, IsRecorder}
use Rattle.fenced_theory.proofs.Growing.{some_none, some_same}
use Rattle.fenced_theory.proofs.Lasting.{stays}

nth_in : {A : Type 0} (P : A → Type 0) (xs : List A) → Each P xs → (i : ℕ) (x : A) → slice_get xs i ≡ Some x → P x
nth_in P [] h i x is = some_none is refl
nth_in P (y ∷ xs) h zero x is = subst P (some_same refl is) h.0
nth_in P (y ∷ xs) h (suc i) x is = nth_in P xs h.1 i x is

nth_left : {A : Type 0} (xs ys : List A) (i : ℕ) (x : A) → slice_get xs i ≡ Some x → slice_get (xs ++ ys) i ≡ Some x
nth_left [] ys i x is = some_none is refl
nth_left (y ∷ xs) ys zero x is = is
nth_left (y ∷ xs) ys (suc i) x is = nth_left xs ys i x is

-- an element of two lists is of the first, or a P, where each of the second is
nth_two : {A : Type 0} (P : A → Type 0) (xs ys : List A) → Each P ys → (i : ℕ) (x : A) → slice_get (xs ++ ys) i ≡ Some x → (slice_get xs i ≡ Some x) ⊎ P x
nth_two P [] ys h i x is = inr (nth_in P ys h i x is)
nth_two P (y ∷ xs) ys h zero x is = inl is
nth_two P (y ∷ xs) ys h (suc i) x is = nth_two P xs ys h i x is

keep_none : (cut : ℕ) (ys : List Output) → Each (λ o. cut ≤ o.step) ys → filter (λ o. nat_lt o.step cut) ys ≡ []
keep_none cut [] h = refl
keep_none cut (y ∷ ys) h = rw (le-ltb y.step cut h.0) (keep_none cut ys h.1)

keep_first : (cut : ℕ) (xs ys : List Output) → Each (λ o. o.step < cut) xs → Each (λ o. cut ≤ o.step) ys → filter (λ o. nat_lt o.step cut) (xs ++ ys) ≡ xs
keep_first cut [] ys h k = keep_none cut ys k
keep_first cut (x ∷ xs) ys h k = rw (lt-ltb x.step cut h.0) (ap (λ l. x ∷ l) (keep_first cut xs ys h.1 k))

each_append : {A : Type 0} (P : A → Type 0) (xs ys : List A) → Each P xs → Each P ys → Each P (xs ++ ys)
each_append P [] ys h k = k
each_append P (x ∷ xs) ys h k = (h.0, each_append P xs ys h.1 k)

each_up : (low high : ℕ) (xs : List Output) → low ≤ high → Each (λ o. high ≤ o.step) xs → Each (λ o. low ≤ o.step) xs
each_up low high [] le h = tt
each_up low high (x ∷ xs) le h = (le_trans le h.0, each_up low high xs le h.1)

lt_le : (a b c : ℕ) → a < b → b ≤ c → a < c
lt_le a b c less le = omega arith

each_below : (low high : ℕ) (xs : List Output) → low ≤ high → Each (λ o. o.step < low) xs → Each (λ o. o.step < high) xs
each_below low high [] le h = tt
each_below low high (x ∷ xs) le h = (lt_le x.step low high h.0 le, each_below low high xs le h.1)

pairs_last : (xs : List Output) (o : Output) → EachPair (λ o p. o.step < p.step) xs → Each (λ x. x.step < o.step) xs →
    EachPair (λ o p. o.step < p.step) (xs ++ o ∷ [])
pairs_last [] o h k = (tt, tt)
pairs_last (x ∷ xs) o h k = (each_append (λ p. x.step < p.step) xs (o ∷ []) h.0 (k.0, tt), pairs_last xs o h.1 k.1)

module _ {Hart Page Input : Type 0} (system : System Hart Page Input) (outs : Outs system) where
  run_two : (m : Machine Hart Page) (xs ys : List (Turn Input)) → run system m (xs ++ ys) ≡ run system (run system m xs) ys
  run_two m [] ys = refl
  run_two m (x ∷ xs) ys = run_two (after m (step_of system m x)) xs ys

  runs_two : (m : Machine Hart Page) (xs ys : List (Turn Input)) → Runs system m xs → Runs system (run system m xs) ys → Runs system m (xs ++ ys)
  runs_two m [] ys h k = k
  runs_two m (x ∷ xs) ys h k = (h.0, runs_two (after m (step_of system m x)) xs ys h.1 k)

  runs_rest : (m : Machine Hart Page) (xs ys : List (Turn Input)) → Runs system m (xs ++ ys) → Runs system (run system m xs) ys
  runs_rest m [] ys h = h
  runs_rest m (x ∷ xs) ys h = runs_rest (after m (step_of system m x)) xs ys h.1

  counts_up : (m : Machine Hart Page) (turns : List (Turn Input)) → Runs system m turns → (hart : ℕ) →
      counts system m hart ≤ counts system (run system m turns) hart
  counts_up m [] runs hart = omega arith
  counts_up m (t ∷ turns) runs hart =
      let ih : counts system (after m (step_of system m t)) hart ≤ counts system (run system (after m (step_of system m t)) turns) hart =
      counts_up (after m (step_of system m t)) turns runs.1 hart in
      let e : counts system (after m (step_of system m t)) hart ≡ bump (counts system m) t.hart hart = ap (λ f. f hart) (counts_step system m t runs.0) in
      let le : counts system m hart ≤ bump (counts system m) t.hart hart = bump_le (counts system m) t.hart hart in
      omega arith

  -- what a run adds to a hart's outputs is at its count or above
  pub record Adds (m : Machine Hart Page) (end : Machine Hart Page) (hart : ℕ) : Type 0 where
    pub more : List Output
    pub is : outs.outputs (end.harts hart) ≡ outs.outputs (m.harts hart) ++ more
    pub high : Each (λ o. counts system m hart ≤ o.step) more

  append_nil : {A : Type 0} (xs : List A) → xs ++ [] ≡ xs
  append_nil [] = refl
  append_nil (x ∷ xs) = ap (λ l. x ∷ l) (append_nil xs)

  one_adds : (m : Machine Hart Page) (t : Turn Input) (hart : ℕ) → system.halted (m.harts t.hart) ≡ false → Adds m (after m (step_of system m t)) hart
  one_adds m t hart goes =
      elim (same_or_not t.hart hart) [
        | inl same ↦
            let put : outs.outputs ((after m (step_of system m t)).harts hart) ≡ outs.outputs (step_of system m t).effect.hart =
            ap outs.outputs (put_same m.harts t.hart hart (step_of system m t).effect.hart same) in
            elim (outs.adds (m.harts t.hart) t.input m.pages goes) [
              | inl same_outputs ↦
                  record {
                    more = [];
                    is = put ∙ (same_outputs ∙
                        (ap (λ h. outs.outputs (m.harts h)) same ∙ sym (append_nil (outs.outputs (m.harts hart)))));
                    high = tt;
                  }
              | inr (o, at_count, is) ↦
                  record {
                    more = o ∷ [];
                    is = put ∙ (is ∙ ap (λ h. outs.outputs (m.harts h) ++ o ∷ []) same);
                    high = let e : o.step ≡ counts system m hart = at_count ∙ ap (counts system m) same in (omega arith, tt);
                  }
            ]
        | inr ne ↦
            record {
              more = [];
              is = ap outs.outputs (put_other m.harts t.hart hart (step_of system m t).effect.hart ne) ∙ sym (append_nil (outs.outputs (m.harts hart)));
              high = tt;
            }
      ]

  adds : (m : Machine Hart Page) (turns : List (Turn Input)) (hart : ℕ) → Runs system m turns → Adds m (run system m turns) hart
  adds m [] hart runs = record { more = []; is = sym (append_nil (outs.outputs (m.harts hart))); high = tt }
  adds m (t ∷ turns) hart runs =
      let a : Adds m (after m (step_of system m t)) hart = one_adds m t hart runs.0 in
      let b : Adds (after m (step_of system m t)) (run system (after m (step_of system m t)) turns) hart =
      adds (after m (step_of system m t)) turns hart runs.1 in
      let e : counts system (after m (step_of system m t)) hart ≡ bump (counts system m) t.hart hart = ap (λ f. f hart) (counts_step system m t runs.0) in
      let le : counts system m hart ≤ bump (counts system m) t.hart hart = bump_le (counts system m) t.hart hart in
      record {
        more = a.more ++ b.more;
        is = b.is ∙ (ap (λ l. l ++ b.more) a.is ∙ append_assoc (outs.outputs (m.harts hart)) a.more b.more);
        high = each_append (λ o. counts system m hart ≤ o.step) a.more b.more a.high
            (each_up (counts system m hart) (counts system (after m (step_of system m t)) hart) b.more (omega arith) b.high);
      }

  bump_one : (now : ℕ → ℕ) (i j : ℕ) → bump now i j ≤ now j + 1
  bump_one now i j =
      elim (same_or_not i j) [
        | inl e ↦ let f : bump now i j ≡ now i + 1 = put_same now i j (now i + 1) e in let g : now i ≡ now j = ap now e in omega arith
        | inr ne ↦ let f : bump now i j ≡ now j = put_other now i j (now i + 1) ne in omega arith
      ]

  -- a run has a beginning where the hart's count is the one asked for
  front : (m : Machine Hart Page) (turns : List (Turn Input)) (hart cut : ℕ) → Runs system m turns → counts system m hart ≤ cut →
      cut ≤ counts system (run system m turns) hart →
      (xs ys : List (Turn Input)) × (xs ++ ys ≡ turns) × (counts system (run system m xs) hart ≡ cut)
  front m [] hart cut runs lo hi = ([], [], refl, omega arith)
  front m (t ∷ turns) hart cut runs lo hi =
      elim (cases_lt (counts system m hart) cut) [
        | inr here ↦ ([], t ∷ turns, refl, omega arith)
        | inl below ↦
            let e : counts system (after m (step_of system m t)) hart ≡ bump (counts system m) t.hart hart = ap (λ f. f hart) (counts_step system m t runs.0) in
            let le : bump (counts system m) t.hart hart ≤ counts system m hart + 1 = bump_one (counts system m) t.hart hart in
            let (xs, ys, is, at) = front (after m (step_of system m t)) turns hart cut runs.1 (omega arith) hi in
            (t ∷ xs, ys, ap (λ l. t ∷ l) is, at)
      ]

  abbrev machine : Book system outs → Machine Hart Page
  machine b = run system b.from b.turns

  -- outputs stay tidy
  one_tidy : (m : Machine Hart Page) (t : Turn Input) → system.halted (m.harts t.hart) ≡ false →
      ((hart : ℕ) → AreTidy (counts system m hart) (outs.outputs (m.harts hart))) →
      (hart : ℕ) → AreTidy (counts system (after m (step_of system m t)) hart) (outs.outputs ((after m (step_of system m t)).harts hart))
  one_tidy m t goes tidy hart =
      elim (same_or_not t.hart hart) [
        | inl same ↦
            subst (λ h. AreTidy (system.count h) (outs.outputs h)) (sym (put_same m.harts t.hart hart (step_of system m t).effect.hart same))
            (by_outputs (outs.adds (m.harts t.hart) t.input m.pages goes))
        | inr ne ↦ subst (λ h. AreTidy (system.count h) (outs.outputs h)) (sym (put_other m.harts t.hart hart (step_of system m t).effect.hart ne)) (tidy hart)
      ]
    where
      counted : system.count (step_of system m t).effect.hart ≡ counts system m t.hart + 1
      counted = system.counted (m.harts t.hart) t.input m.pages goes

      was : AreTidy (counts system m t.hart) (outs.outputs (m.harts t.hart))
      was = tidy t.hart

      by_outputs : (outs.outputs (step_of system m t).effect.hart ≡ outs.outputs (m.harts t.hart)) ⊎
          ((o : Output) × (o.step ≡ counts system m t.hart) × (outs.outputs (step_of system m t).effect.hart ≡ outs.outputs (m.harts t.hart) ++ o ∷ [])) →
          AreTidy (system.count (step_of system m t).effect.hart) (outs.outputs (step_of system m t).effect.hart)
      by_outputs (inl same) =
          subst (λ os. AreTidy (system.count (step_of system m t).effect.hart) os) (sym same)
          (record {
            rising = was.rising;
            below = each_below (counts system m t.hart) (system.count (step_of system m t).effect.hart)
                (outs.outputs (m.harts t.hart)) (omega arith) was.below;
          })
      by_outputs (inr (o, at_count, is)) =
          subst (λ os. AreTidy (system.count (step_of system m t).effect.hart) os) (sym is)
          (
          record {
            rising = pairs_last (outs.outputs (m.harts t.hart)) o was.rising
                (each_below (counts system m t.hart) o.step (outs.outputs (m.harts t.hart)) (omega arith) was.below);
            below =
                each_append (λ o. o.step < system.count (step_of system m t).effect.hart) (outs.outputs (m.harts t.hart)) (o ∷ [])
                (each_below (counts system m t.hart) (system.count (step_of system m t).effect.hart) (outs.outputs (m.harts t.hart))
                (omega arith) was.below) (omega arith, tt);
          }
          )

  tidy_run : (m : Machine Hart Page) (turns : List (Turn Input)) → Runs system m turns →
      ((hart : ℕ) → AreTidy (counts system m hart) (outs.outputs (m.harts hart))) →
      (hart : ℕ) → AreTidy (counts system (run system m turns) hart) (outs.outputs ((run system m turns).harts hart))
  tidy_run m [] runs tidy = tidy
  tidy_run m (t ∷ turns) runs tidy = tidy_run (after m (step_of system m t)) turns runs.1 (one_tidy m t runs.0 tidy)

  runs_front : (m : Machine Hart Page) (xs ys : List (Turn Input)) → Runs system m (xs ++ ys) → Runs system m xs
  runs_front m [] ys h = tt
  runs_front m (x ∷ xs) ys h = (h.0, runs_front (after m (step_of system m x)) xs ys h.1)

  -- what the second book has more than the first of a hart's outputs
  goes_adds : (b c : Book system outs) → RunsOn system outs b c → (hart : ℕ) → Adds (machine b) (machine c) hart
  goes_adds b c r hart = of_more r.turns
    where
      of_more : (more : List (Turn Input)) × (c.turns ≡ b.turns ++ more) → Adds (machine b) (machine c) hart
      of_more (more, is) =
          let e : machine c ≡ run system (machine b) more =
          ap (λ m. run system m c.turns) r.from ∙ (ap (λ ts. run system b.from ts) is ∙ run_two b.from b.turns more) in
          let runs : Runs system b.from (b.turns ++ more) =
          subst (λ ts. Runs system b.from ts) is (subst (λ m. Runs system m c.turns) r.from c.honest.runs) in
          subst (λ m. Adds (machine b) m hart) (sym e) (adds (machine b) more hart (runs_rest b.from b.turns more runs))

  goes_counts : (b c : Book system outs) → RunsOn system outs b c → (hart : ℕ) → b.log.end hart ≤ c.log.end hart
  goes_counts b c r hart = of_more r.turns
    where
      of_more : (more : List (Turn Input)) × (c.turns ≡ b.turns ++ more) → b.log.end hart ≤ c.log.end hart
      of_more (more, is) =
          let e : machine c ≡ run system (machine b) more =
          ap (λ m. run system m c.turns) r.from ∙ (ap (λ ts. run system b.from ts) is ∙ run_two b.from b.turns more) in
          let runs : Runs system b.from (b.turns ++ more) =
          subst (λ ts. Runs system b.from ts) is (subst (λ m. Runs system m c.turns) r.from c.honest.runs) in
          let up : counts system (machine b) hart ≤ counts system (machine c) hart =
          subst (λ m. counts system (machine b) hart ≤ counts system m hart) (sym e) (counts_up (machine b) more (runs_rest b.from b.turns more runs) hart) in
          let x : b.log.end hart ≡ counts system (machine b) hart = b.honest.end hart in
          let y : c.log.end hart ≡ counts system (machine c) hart = c.honest.end hart in
          omega arith

  -- the hart at the cut is as it was when its count was the cut's
  pub record IsAsItWas (b : Book system outs) (cut : ℕ → ℕ) (hart : ℕ) : Type 0 where
    pub was : Machine Hart Page
    pub is : (at system b.from b.turns cut).harts hart ≡ was.harts hart
    pub count : counts system was hart ≡ cut hart
    pub tidy : AreTidy (cut hart) (outs.outputs (was.harts hart))
    pub later : Adds was (machine b) hart

  pub at_cut : (b : Book system outs) (cut : ℕ → ℕ) (hart : ℕ) → ((h : ℕ) → counts system b.from h ≤ cut h) → ((h : ℕ) → cut h ≤ counts system (machine b) h) →
      IsAsItWas b cut hart
  at_cut b cut hart lo hi = of_front (front b.from b.turns hart (cut hart) b.honest.runs (lo hart) (hi hart))
    where
      of_front : (xs ys : List (Turn Input)) × (xs ++ ys ≡ b.turns) × (counts system (run system b.from xs) hart ≡ cut hart) → IsAsItWas b cut hart
      of_front (xs, ys, is, at_xs) =
          record {
            was = run system b.from xs;
            is =
                subst (λ l. (at system b.from l cut).harts hart ≡ (run system b.from xs).harts hart) is
                (hart_as_it_was system b.from xs ys cut hart (subst (λ l. Runs system b.from l) (sym is) b.honest.runs) at_xs);
            count = at_xs;
            tidy =
                subst (λ n. AreTidy n (outs.outputs ((run system b.from xs).harts hart))) at_xs
                (tidy_run b.from xs (runs_front b.from xs ys (subst (λ l. Runs system b.from l) (sym is) b.honest.runs)) b.tidy hart);
            later =
                subst (λ l. Adds (run system b.from xs) (run system b.from l) hart) is
                (
                subst (λ m. Adds (run system b.from xs) m hart) (sym (run_two b.from xs ys))
                (adds (run system b.from xs) ys hart (runs_rest b.from xs ys (subst (λ l. Runs system b.from l) (sym is) b.honest.runs)))
                );
          }

  live_outs : (b : Book system outs) (cut : ℕ → ℕ) (hart : ℕ) → IsAsItWas b cut hart →
      outs.outputs ((at system b.from b.turns cut).harts hart) ≡ filter (λ o. nat_lt o.step (cut hart)) (outs.outputs ((machine b).harts hart))
  live_outs b cut hart a =
      ap outs.outputs a.is ∙
      (
      sym
      (
      keep_first (cut hart) (outs.outputs (a.was.harts hart)) a.later.more a.tidy.below
      (subst (λ n. Each (λ o. n ≤ o.step) a.later.more) a.count a.later.high)
      ) ∙
      ap (filter (λ o. nat_lt o.step (cut hart))) (sym a.later.is)
      )

  pub from_low : (b : Book system outs) (cut : ℕ → ℕ) → ((h : ℕ) → b.log.start h ≤ cut h) → (h : ℕ) → counts system b.from h ≤ cut h
  from_low b cut lo h = subst (λ n. n ≤ cut h) (b.honest.start h) (lo h)

  pub from_high : (b : Book system outs) (cut : ℕ → ℕ) → ((h : ℕ) → cut h ≤ b.log.end h) → (h : ℕ) → cut h ≤ counts system (machine b) h
  from_high b cut hi h = subst (λ n. cut h ≤ n) (b.honest.end h) (hi h)

  goes_old : (b c : Book system outs) → RunsOn system outs b c → (hart number : ℕ) (o : Output) → slice_get (outs.outputs ((machine b).harts hart)) number ≡ Some o →
      slice_get (outs.outputs ((machine c).harts hart)) number ≡ Some o
  goes_old b c r hart number o is =
      let a = goes_adds b c r hart in
      subst (λ l. slice_get l number ≡ Some o) (sym a.is) (nth_left (outs.outputs ((machine b).harts hart)) a.more number o is)

  goes_new : (b c : Book system outs) → RunsOn system outs b c → (hart number : ℕ) (o : Output) → slice_get (outs.outputs ((machine c).harts hart)) number ≡ Some o →
      (slice_get (outs.outputs ((machine b).harts hart)) number ≡ Some o) ⊎ (b.log.end hart ≤ o.step)
  goes_new b c r hart number o is =
      let a = goes_adds b c r hart in
      nth_two (λ o. b.log.end hart ≤ o.step) (outs.outputs ((machine b).harts hart)) a.more
      (subst (λ n. Each (λ o. n ≤ o.step) a.more) (sym (b.honest.end hart)) a.high) number o (subst (λ l. slice_get l number ≡ Some o) a.is is)

  goes_forward : (b : Book system outs) (hart : ℕ) → b.log.start hart ≤ b.log.end hart
  goes_forward b hart =
      let x : b.log.start hart ≡ counts system b.from hart = b.honest.start hart in
      let y : b.log.end hart ≡ counts system (machine b) hart = b.honest.end hart in
      let up : counts system b.from hart ≤ counts system (machine b) hart = counts_up b.from b.turns b.honest.runs hart in
      omega arith

  live_from : (b c : Book system outs) (cut : ℕ → ℕ) → c.from ≡ at system b.from b.turns cut → ((h : ℕ) → b.log.start h ≤ cut h) →
      ((h : ℕ) → cut h ≤ b.log.end h) →
      (hart : ℕ) → c.log.start hart ≡ cut hart
  live_from b c cut from lo hi hart =
      let a = at_cut b cut hart (from_low b cut lo) (from_high b cut hi) in
      c.honest.start hart ∙ (ap (λ m. counts system m hart) from ∙ (ap system.count a.is ∙ a.count))

  live_has : (b c : Book system outs) (cut : ℕ → ℕ) → c.from ≡ at system b.from b.turns cut → c.turns ≡ [] → ((h : ℕ) → b.log.start h ≤ cut h) →
      ((h : ℕ) → cut h ≤ b.log.end h) →
      (hart : ℕ) → outs.outputs ((machine c).harts hart) ≡ filter (λ o. nat_lt o.step (cut hart)) (outs.outputs ((machine b).harts hart))
  live_has b c cut from none lo hi hart =
      ap (λ ts. outs.outputs ((run system c.from ts).harts hart)) none ∙
      (ap (λ m. outs.outputs (m.harts hart)) from ∙ live_outs b cut hart (at_cut b cut hart (from_low b cut lo) (from_high b cut hi)))

  abbrev Facts : Machine Hart Page → Type 0
  Facts boot = BookFact system outs boot

  -- what a fact tells, told of the books that it has
  went : {boot : Machine Hart Page} (b c : Book system outs) (f : Facts boot) → told system outs f ≡ Went b c → RunsOn system outs b c
  went b c (AtBoot d is) e = let no : Booted d ≡ Went b c = e in cc
  went b c (ByRun d g on) e =
      let both : Went d g ≡ Went b c = e in
      let first : d ≡ b = cc in
      let second : g ≡ c = cc in
      subst (λ b. RunsOn system outs b c) first (subst (λ c. RunsOn system outs d c) second on)
  went b c (AtCut d cut g from none) e = let no : Revived d cut g ≡ Went b c = e in cc

  booted : {boot : Machine Hart Page} (b : Book system outs) (f : Facts boot) → told system outs f ≡ Booted b → b.from ≡ boot
  booted b (AtBoot d is) e = let all : Booted d ≡ Booted b = e in let same : d ≡ b = cc in ap (λ b. b.from) (sym same) ∙ is
  booted b (ByRun d g on) e = let no : Went d g ≡ Booted b = e in cc
  booted b (AtCut d cut g from none) e = let no : Revived d cut g ≡ Booted b = e in cc

  record Revives (b : Book system outs) (cut : ℕ → ℕ) (c : Book system outs) : Type 0 where
    from : c.from ≡ at system b.from b.turns cut
    none : c.turns ≡ []

  revived : {boot : Machine Hart Page} (b : Book system outs) (cut : ℕ → ℕ) (c : Book system outs) (f : Facts boot) →
      told system outs f ≡ Revived b cut c → Revives b cut c
  revived b cut c (AtBoot d is) e = let no : Booted d ≡ Revived b cut c = e in cc
  revived b cut c (ByRun d g on) e = let no : Went d g ≡ Revived b cut c = e in cc
  revived b cut c (AtCut d other g from none) e =
      let all : Revived d other g ≡ Revived b cut c = e in
      let first : d ≡ b = cc in
      let same : other ≡ cut = cc in
      let second : g ≡ c = cc in
      subst (λ b. Revives b cut c) first (subst (λ cut. Revives d cut c) same (subst (λ c. Revives d other c) second (record { from = from; none = none })))

  pub of_logs : (boot : Machine Hart Page) → ((hart : ℕ) → counts system boot hart ≡ 0) → IsRecorder system outs boot
  of_logs boot zeros =
      record {
        recorder =
            record {
              start = λ b. b.log.start;
              counts = λ b. b.log.end;
              edges = λ b. b.log.edges;
              outputs = λ b hart. outs.outputs ((machine b).harts hart);
              tells = told system outs;
              from_start = λ b. b.begins;
              rising = λ b hart. (tidy_run b.from b.turns b.honest.runs b.tidy hart).rising;
              forward = goes_forward;
              step_start = λ b c f is hart. let r = went b c f is in c.honest.start hart ∙ (ap (λ m. counts system m hart) r.from ∙ sym (b.honest.start hart));
              step_counts = λ b c f is. goes_counts b c (went b c f is);
              old_edges = λ b c f is. (went b c f is).old_edges;
              new_edges = λ b c f is. (went b c f is).new_edges;
              old_outputs = λ b c f is. goes_old b c (went b c f is);
              new_outputs = λ b c f is. goes_new b c (went b c f is);
              boot_start = λ b f is hart. b.honest.start hart ∙ (ap (λ m. counts system m hart) (booted b f is) ∙ zeros hart);
              live_start = λ b c cut f is lo hi closed hart. let r = revived b cut c f is in live_from b c cut r.from lo hi hart;
              live_outputs = λ b c cut f is lo hi closed hart. let r = revived b cut c f is in live_has b c cut r.from r.none lo hi hart;
              lasts =
                  λ b c d cut f g is goes lo hi closed.
                  let r = revived b cut d f is in (AtCut c cut d (stays system outs b c d cut hi (went b c g goes) r.from) r.none, refl);
            };
        start = λ b. refl;
        counts_are = λ b. refl;
        edges = λ b. refl;
        outputs = λ b hart. refl;
        tells = λ f. refl;
      }
