-- The step that a hart takes next by the log, pulled out of what is left of the interleaving.
use Rattle.std.proofs.Common.{◌≡◌, ◌≢◌, inl, inr, ℕ, ◌+◌, ◌==◌, ◌<◌, true, false, cond, List, [], ◌∷◌, refl, sym, ap, subst, ◌∙◌, arith}
use Rattle.interleaving.specs.Lists.{Each, EachPair}
use Rattle.interleaving.specs.Machine.{Machine, System, Turn, Step, after, counts, step_of, steps, Runs, run}
use Rattle.interleaving.specs.Log.{Log, Before, IsClosed, IsMet, EachMet, Conflict, place, bump}
use Rattle.interleaving.proofs.Put.{same_or_not, put_other, written_other, bump_same, bump_other}
use Rattle.interleaving.proofs.Removal.{Pulled, Here, There, IsApart, pulled_each, pulled_pairs, pulled_all, after_swap}
use Rattle.interleaving.proofs.Order.{before_inside, bump_closed, bump_met, pulled_met}

module _ {Hart Page Input : Type 0} (system : System Hart Page Input) where
  pub counts_step : (m : Machine Hart Page) (t : Turn Input) → system.halted (m.harts t.hart) ≡ false →
      counts system (after m (step_of system m t)) ≡ bump (counts system m) t.hart
  counts_step m t runs = λ p hart. at_each hart p
    where
      at_each : (hart : ℕ) → counts system (after m (step_of system m t)) hart ≡ bump (counts system m) t.hart hart
      at_each hart =
          elim (t.hart == hart) as
          (λ b. system.count (cond b (system.effect (m.harts t.hart) t.input m.pages).hart (m.harts hart)) ≡ cond b
          (system.count (m.harts t.hart) + 1) (system.count (m.harts hart)))
          [ true ↦ system.counted (m.harts t.hart) t.input m.pages runs | false ↦ refl ]

module _ {Hart Page Input : Type 0} (system : System Hart Page Input) (log : Log Input) where
  -- what is left of an honest interleaving while a replay goes on
  pub record Rest (m : Machine Hart Page) (turns : List (Turn Input)) : Type 0 where
    pub runs : Runs system m turns
    pub inputs : Each (λ s. s.input ≡ log.inputs s.hart (system.count s.found)) (steps system m turns)
    pub end : (hart : ℕ) → log.end hart ≡ counts system (run system m turns) hart
    pub closed : IsClosed log.edges (counts system m)
    pub met : EachMet log.edges (counts system m) (steps system m turns)
    pub ordered : EachPair (λ s t. Conflict system s t → Before log.edges (place system s) (place system t))
        (steps system m turns)

  -- what the hart does next by the log
  abbrev pub turn_of : Machine Hart Page → ℕ → Turn Input
  turn_of m hart = record { hart = hart; input = log.inputs hart (counts system m hart) }

  abbrev pub next : Machine Hart Page → ℕ → Step Hart Page Input
  next m hart = step_of system m (turn_of m hart)

  pub tail : (m : Machine Hart Page) (a : Turn Input) (turns : List (Turn Input)) → Rest m (a ∷ turns) →
      Rest (after m (step_of system m a)) turns
  tail m a turns r =
      record {
        runs = r.runs.1;
        inputs = r.inputs.1;
        end = r.end;
        closed =
            subst (λ n. IsClosed log.edges n) (sym (counts_step system m a r.runs.0))
            (bump_closed log.edges (counts system m) a.hart r.closed r.met.0);
        met =
            subst (λ n. EachMet log.edges n (steps system (after m (step_of system m a)) turns))
            (sym (counts_step system m a r.runs.0)) r.met.1;
        ordered = r.ordered.1;
      }

  -- a hart whose next step is left is not halted
  pub goes : (m : Machine Hart Page) (turns left : List (Turn Input)) (hart : ℕ) → Rest m turns →
      Pulled (next m hart) (steps system m turns) (steps system (after m (next m hart)) left) →
      system.halted (m.harts hart) ≡ false
  goes m turns left hart r p = (pulled_each (next m hart) (λ s. system.halted s.found ≡ false) p r.runs).0

  pub advance : (m : Machine Hart Page) (turns left : List (Turn Input)) (hart : ℕ) → Rest m turns →
      IsMet log.edges (counts system m) hart →
      Pulled (next m hart) (steps system m turns) (steps system (after m (next m hart)) left) →
      Rest (after m (next m hart)) left
  advance m turns left hart r met p =
      record {
        runs = (pulled_each (next m hart) (λ s. system.halted s.found ≡ false) p r.runs).1;
        inputs = (pulled_each (next m hart) (λ s. s.input ≡ log.inputs s.hart (system.count s.found)) p r.inputs).1;
        end = λ h. r.end h ∙ ap (λ n. counts system n h) (pulled_all (next m hart) p m);
        closed =
            subst (λ n. IsClosed log.edges n)
            (sym (counts_step system m (turn_of m hart) (goes m turns left hart r p)))
            (bump_closed log.edges (counts system m) hart r.closed met);
        met =
            subst (λ n. EachMet log.edges n (steps system (after m (next m hart)) left))
            (sym (counts_step system m (turn_of m hart) (goes m turns left hart r p)))
            (pulled_met log.edges (next m hart) p (counts system m) r.met);
        ordered =
            pulled_pairs (next m hart)
            (λ s t. Conflict system s t → Before log.edges (place system s) (place system t)) p r.ordered;
      }

  -- a step that stands before one that may go already does not conflict with it
  pub no_conflict : (m : Machine Hart Page) (s t : Step Hart Page Input) → IsClosed log.edges (counts system m) →
      IsMet log.edges (counts system m) t.hart →
      system.count s.found ≡ counts system m s.hart → system.count t.found ≡ counts system m t.hart →
      (Conflict system s t → Before log.edges (place system s) (place system t)) → Conflict system s t → ⊥
  no_conflict m s t closed met s_at t_at ordered conflict =
      let same : bump (counts system m) t.hart t.hart ≡ counts system m t.hart + 1 =
      bump_same (counts system m) t.hart in
      let other : bump (counts system m) t.hart s.hart ≡ counts system m s.hart =
      bump_other (counts system m) t.hart s.hart (λ e. conflict.0 (sym e)) in
      let is_inside : system.count t.found < bump (counts system m) t.hart t.hart = omega arith in
      let was_inside : system.count s.found < bump (counts system m) t.hart s.hart =
      before_inside log.edges (bump (counts system m) t.hart)
      (bump_closed log.edges (counts system m) t.hart closed met) (ordered conflict) is_inside in
      omega arith

  -- the hart's next step stands first
  pull_first : (m : Machine Hart Page) (a : Turn Input) (turns : List (Turn Input)) (hart : ℕ) → Rest m (a ∷ turns) →
      a.hart ≡ hart →
      (left : List (Turn Input)) ×
      Pulled (next m hart) (steps system m (a ∷ turns)) (steps system (after m (next m hart)) left)
  pull_first m a turns hart r same = (
    turns,
    subst (λ t. Pulled t (steps system m (a ∷ turns)) (steps system (after m t) turns))
        (ap (step_of system m) (is_input ∙ ap (turn_of m) same)) Here,
  )
    where
      is_input : a ≡ turn_of m a.hart
      is_input = λ i. record { hart = a.hart; input = r.inputs.0 i }

  -- or behind that of another hart
  pull_behind : (m : Machine Hart Page) (a : Turn Input) (turns : List (Turn Input)) (hart : ℕ) → Rest m (a ∷ turns) →
      IsMet log.edges (counts system m) hart →
      a.hart ≢ hart →
      (left : List (Turn Input)) ×
      Pulled (next (after m (step_of system m a)) hart) (steps system (after m (step_of system m a)) turns)
      (steps system (after (after m (step_of system m a)) (next (after m (step_of system m a)) hart)) left) →
      (left : List (Turn Input)) ×
      Pulled (next m hart) (steps system m (a ∷ turns)) (steps system (after m (next m hart)) left)
  pull_behind m a turns hart r met ne (left, p) = (
    a ∷ left,
    subst (λ z. Pulled t (s ∷ steps system m₁ turns) (z ∷ steps system (after (after m t) z) left)) s-is
        (There apart moved),
  )
    where
      s : Step Hart Page Input
      s = step_of system m a

      m₁ : Machine Hart Page
      m₁ = after m s

      t₁ : Step Hart Page Input
      t₁ = next m₁ hart

      t : Step Hart Page Input
      t = next m hart

      t-found : m₁.harts hart ≡ m.harts hart
      t-found = put_other m.harts a.hart hart s.effect.hart ne

      free₁ : Conflict system s t₁ → ⊥
      free₁ =
          no_conflict m s t₁ r.closed met refl (ap system.count t-found)
          (pulled_each t₁
          (λ t. Conflict system s t → Before log.edges (place system s) (place system t)) p r.ordered.0).0

      t₁-runs : system.halted (m₁.harts hart) ≡ false
      t₁-runs = goes m₁ turns left hart (tail m a turns r) p

      t-runs : system.halted (m.harts hart) ≡ false
      t-runs = subst (λ x. system.halted x ≡ false) t-found t₁-runs

      shape : Hart → Step Hart Page Input
      shape x =
          record {
            hart = hart;
            found = x;
            input = log.inputs hart (system.count x);
            effect = system.effect x
                (log.inputs hart (system.count x)) m.pages;
          }

      effect-is : t₁.effect ≡ system.effect (m₁.harts hart) t₁.input m.pages
      effect-is =
          system.local (m₁.harts hart) t₁.input m₁.pages m.pages t₁-runs
          (λ page touched.
          written_other m.pages s.effect.write page
          (λ w. free₁ (ne, (page, system.within (m.harts a.hart) a.input m.pages page r.runs.0 w, touched, inl w))))

      t-is : t₁ ≡ t
      t-is =
          (λ i. record { hart = hart; found = m₁.harts hart; input = t₁.input; effect = effect-is i }) ∙
          ap shape t-found

      free : Conflict system s t → ⊥
      free = subst (λ t. Conflict system s t → ⊥) t-is free₁

      apart : IsApart s t
      apart =
          record {
            harts = ne;
            pages = λ page v w.
                free (
                  ne,
                  (
                    page,
                    system.within (m.harts a.hart) a.input m.pages page r.runs.0 v,
                    system.within (m.harts hart) t.input m.pages page t-runs w,
                    inl v,
                  ),
                );
          }

      moved : Pulled t (steps system m₁ turns) (steps system (after (after m t) s) left)
      moved =
          subst (λ n. Pulled t (steps system m₁ turns) (steps system n left)) (after_swap t m s apart)
          (subst (λ t. Pulled t (steps system m₁ turns) (steps system (after m₁ t) left)) t-is p)

      s-shape : Hart → Step Hart Page Input
      s-shape x =
          record { hart = a.hart; found = x; input = a.input; effect = system.effect x a.input (after m t).pages }

      s-effect-is : s.effect ≡ system.effect (m.harts a.hart) a.input (after m t).pages
      s-effect-is =
          system.local (m.harts a.hart) a.input m.pages (after m t).pages r.runs.0
          (λ page touched.
          sym
          (written_other m.pages t.effect.write page
          (λ w. free (ne, (page, touched, system.within (m.harts hart) t.input m.pages page t-runs w, inr w)))))

      s-is : s ≡ step_of system (after m t) a
      s-is =
          (λ i. record { hart = a.hart; found = m.harts a.hart; input = a.input; effect = s-effect-is i }) ∙
          ap s-shape (sym (put_other m.harts hart a.hart t.effect.hart (λ e. ne (sym e))))

  -- the hart's next step, from where it stands
  pub pull : (m : Machine Hart Page) (turns : List (Turn Input)) (hart : ℕ) → Rest m turns →
      counts system m hart < log.end hart →
      IsMet log.edges (counts system m) hart →
      (left : List (Turn Input)) ×
      Pulled (next m hart) (steps system m turns) (steps system (after m (next m hart)) left)
  pull m [] hart r below met = let e : log.end hart ≡ counts system m hart = r.end hart in absurd (omega arith)
  pull m (a ∷ turns) hart r below met =
      elim (same_or_not a.hart hart) [
        | inl same ↦ pull_first m a turns hart r same
        | inr ne ↦
            let at_hart : bump (counts system m) a.hart hart ≡ counts system m hart =
            bump_other (counts system m) a.hart hart ne in
            pull_behind m a turns hart r met ne
            (
            pull (after m (step_of system m a)) turns hart (tail m a turns r)
            (subst (λ n. n hart < log.end hart) (sym (counts_step system m a r.runs.0))
            (subst (λ n. n < log.end hart) (sym at_hart) below))
            (subst (λ n. IsMet log.edges n hart) (sym (counts_step system m a r.runs.0))
            (bump_met log.edges (counts system m) a.hart hart ne met))
            )
      ]
