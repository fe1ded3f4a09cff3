-- Runs of one hart, runs on machines that agree on what they use, and edges that are met.
use Rattle.std.proofs.Common.{◌≡◌, ◌≢◌, inl, inr, ℕ, ◌+◌, ◌<◌, ◌≤◌, Bool, true, false, List, [], ◌∷◌, ◌++◌, Option, Some, None, Contains, refl, sym, ap, subst}
use Rattle.std.proofs.Common.{◌∙◌, arith, le_trans, le_refl, true≢false}
use Rattle.std.proofs.lemmas.List.Elements.{Contains-append_cases, Contains-append_right}
use Rattle.interleaving.specs.Lists.{Each, EachPair}
use Rattle.interleaving.specs.Machine.{Write, Writes, System, Machine, Turn, Step, written, after, counts, step_of, steps, Runs, run}
use Rattle.interleaving.specs.Log.{Edge, EachMet, bump}
use Rattle.interleaving.proofs.Put.{same_or_not, put_same, put_other, written_other, bump_same, bump_le}
use Rattle.interleaving.proofs.NextStep.{counts_step}
use Rattle.interleaving.proofs.Cuts.{here_or_later, here}
use Rattle.interleaving.proofs.Each.{each_from}
use Rattle.interleaving.proofs.Runs.{counts_grow}

-- what holds of any two elements holds of each pair
pub pairs_all : {A : Type 0} (R : A → A → Type 0) (xs : List A) → ((x y : A) → Contains xs x → Contains xs y → R x y) → EachPair R xs
pairs_all R [] h = tt
pairs_all R (x ∷ xs) h = (
  each_from (R x) xs (λ y later. h x y (here x xs) (Contains-append_right (x ∷ []) xs y later)),
  pairs_all R xs (λ y z in_y in_z. h y z (Contains-append_right (x ∷ []) xs y in_y) (Contains-append_right (x ∷ []) xs z in_z)),
)

-- a write changes two machines alike
written_at : {Page : Type 0} (pages others : ℕ → Page) (w : Option (Write Page)) (page : ℕ) → pages page ≡ others page →
    written pages w page ≡ written others w page
written_at pages others None page same = same
written_at pages others (Some w) page same =
    elim (same_or_not w.page page) [
      | inl is ↦ put_same pages w.page page w.contents is ∙ sym (put_same others w.page page w.contents is)
      | inr ne ↦ put_other pages w.page page w.contents ne ∙ (same ∙ sym (put_other others w.page page w.contents ne))
    ]

module _ {Hart Page Input : Type 0} (system : System Hart Page Input) where
  -- each step's number is between its hart's first count and its last
  pub record IsNumbered (m last : Machine Hart Page) (s : Step Hart Page Input) : Type 0 where
    pub from : counts system m s.hart ≤ system.count s.found
    pub below : system.count s.found < counts system last s.hart

  -- the hart's count after its step
  counts_after_step : (m : Machine Hart Page) (t : Turn Input) → system.halted (m.harts t.hart) ≡ false →
      counts system (after m (step_of system m t)) t.hart ≡ counts system m t.hart + 1
  counts_after_step m t runs = ap (λ n. n t.hart) (counts_step system m t runs) ∙ bump_same (counts system m) t.hart

  pub steps_numbered : (m : Machine Hart Page) (turns : List (Turn Input)) → Runs system m turns → (s : Step Hart Page Input) →
      Contains (steps system m turns) s → IsNumbered m (run system m turns) s
  steps_numbered m [] runs s (k, below, is) = absurd (omega arith)
  steps_numbered m (t ∷ turns) runs s h =
      elim (here_or_later (step_of system m t) (steps system (after m (step_of system m t)) turns) s h) [
        | inl is ↦
            subst (IsNumbered m (run system m (t ∷ turns))) is
            (
            record {
              from = le_refl (counts system m t.hart);
              below =
                  let e = counts_after_step m t runs.0 in
                  let g : counts system (after m (step_of system m t)) t.hart ≤ counts system (run system m (t ∷ turns)) t.hart =
                  counts_grow system (after m (step_of system m t)) turns runs.1 t.hart in
                  omega arith;
            }
            )
        | inr later ↦
            let r = steps_numbered (after m (step_of system m t)) turns runs.1 s later in
            record {
              from =
                  le_trans (subst (λ n. counts system m s.hart ≤ n s.hart) (sym (counts_step system m t runs.0)) (bump_le (counts system m) t.hart s.hart))
                  r.from;
              below = r.below;
            }
      ]

  -- what is written is touched
  pub steps_within : (m : Machine Hart Page) (turns : List (Turn Input)) → Runs system m turns →
      Each (λ s. (page : ℕ) → Writes s.effect page → Contains s.effect.touched page) (steps system m turns)
  steps_within m [] runs = tt
  steps_within m (t ∷ turns) runs = (
    (λ page writes. system.within (m.harts t.hart) t.input m.pages page runs.0 writes),
    steps_within (after m (step_of system m t)) turns runs.1,
  )

  -- edges that are met already
  met_all : (edges : List Edge) (now : ℕ → ℕ) (ts : List (Step Hart Page Input)) → ((e : Edge) → Contains edges e → e.count ≤ now e.other) →
      EachMet edges now ts
  met_all edges now [] met = tt
  met_all edges now (t ∷ ts) met = (
    (λ e is_edge is_here stands. met e is_edge),
    met_all edges (bump now t.hart) ts (λ e is_edge. le_trans (met e is_edge) (bump_le now t.hart e.other)),
  )

  -- more edges, of later steps, and more steps
  pub met_more : (m : Machine Hart Page) (turns : List (Turn Input)) (edges more : List Edge) (ts : List (Step Hart Page Input)) → Runs system m turns →
      ((e : Edge) → Contains more e → counts system (run system m turns) e.hart ≤ e.step) →
      ((e : Edge) → Contains (edges ++ more) e → e.count ≤ counts system (run system m turns) e.other) →
      EachMet edges (counts system m) (steps system m turns) → EachMet (edges ++ more) (counts system m) (steps system m turns ++ ts)
  met_more m [] edges more ts runs late bound met = met_all (edges ++ more) (counts system m) ts bound
  met_more m (t ∷ turns) edges more ts runs late bound met = (
    (λ e is_edge is_here stands.
        elim (Contains-append_cases edges more e is_edge) [
          | inl old ↦ met.0 e old is_here stands
          | inr new ↦
              let a : counts system (run system m (t ∷ turns)) e.hart ≤ e.step = late e new in
              let b : counts system (run system m (t ∷ turns)) e.hart ≡ counts system (run system m (t ∷ turns)) t.hart =
              ap (counts system (run system m (t ∷ turns))) is_here in
              let c = counts_after_step m t runs.0 in
              let d : counts system (after m (step_of system m t)) t.hart ≤ counts system (run system m (t ∷ turns)) t.hart =
              counts_grow system (after m (step_of system m t)) turns runs.1 t.hart in
              let f : e.step ≡ counts system m t.hart = stands in
              absurd (omega arith)
        ]),
    subst (λ n. EachMet (edges ++ more) n (steps system (after m (step_of system m t)) turns ++ ts)) (counts_step system m t runs.0)
        (met_more (after m (step_of system m t)) turns edges more ts runs.1 late bound
        (subst (λ n. EachMet edges n (steps system (after m (step_of system m t)) turns)) (sym (counts_step system m t runs.0)) met.1)),
  )

  -- a page that no step writes is as it was
  pub run_unwritten : (m : Machine Hart Page) (turns : List (Turn Input)) (page : ℕ) → Each (λ s. Writes s.effect page → ⊥) (steps system m turns) →
      (run system m turns).pages page ≡ m.pages page
  run_unwritten m [] page none = refl
  run_unwritten m (t ∷ turns) page none =
      run_unwritten (after m (step_of system m t)) turns page none.1 ∙ written_other m.pages (step_of system m t).effect.write page none.0

  -- turns of one hart
  module _ (h : ℕ) where
    abbrev pub Mine : List (Turn Input) → Type 0
    Mine turns = Each (λ t. t.hart ≡ h) turns

    pub steps_mine : (m : Machine Hart Page) (turns : List (Turn Input)) → Mine turns → Each (λ s. s.hart ≡ h) (steps system m turns)
    steps_mine m [] mine = tt
    steps_mine m (t ∷ turns) mine = (mine.0, steps_mine (after m (step_of system m t)) turns mine.1)

    pub run_other : (m : Machine Hart Page) (turns : List (Turn Input)) → Mine turns → (g : ℕ) → h ≢ g →
        (run system m turns).harts g ≡ m.harts g
    run_other m [] mine g ne = refl
    run_other m (t ∷ turns) mine g ne =
        run_other (after m (step_of system m t)) turns mine.1 g ne ∙
        put_other m.harts t.hart g (step_of system m t).effect.hart (λ e. ne (sym mine.0 ∙ e))

    -- the step touches only pages that are taken
    abbrev pub Taking : (ℕ → Bool) → Step Hart Page Input → Type 0
    Taking taken s = (page : ℕ) → Contains s.effect.touched page → taken page ≡ true

    -- so no other page is written
    pub run_untaken : (taken : ℕ → Bool) (m : Machine Hart Page) (turns : List (Turn Input)) → Runs system m turns →
        Each (Taking taken) (steps system m turns) → (page : ℕ) → taken page ≡ false → (run system m turns).pages page ≡ m.pages page
    run_untaken taken m [] runs all page not = refl
    run_untaken taken m (t ∷ turns) runs all page not =
        run_untaken taken (after m (step_of system m t)) turns runs.1 all.1 page not ∙
        written_other m.pages (step_of system m t).effect.write page
        (λ w. true≢false (sym (all.0 page (system.within (m.harts t.hart) t.input m.pages page runs.0 w)) ∙ not))

    -- the machines agree on the hart and what it has taken
    pub record IsAlike (taken : ℕ → Bool) (m n : Machine Hart Page) : Type 0 where
      pub hart_is : m.harts h ≡ n.harts h
      pub pages : (page : ℕ) → taken page ≡ true → m.pages page ≡ n.pages page

    pub record RunsAlike (taken : ℕ → Bool) (m n : Machine Hart Page) (turns : List (Turn Input)) : Type 0 where
      pub steps_are : steps system m turns ≡ steps system n turns
      pub ends : IsAlike taken (run system m turns) (run system n turns)

    step_alike : (taken : ℕ → Bool) (m n : Machine Hart Page) (t : Turn Input) → t.hart ≡ h → IsAlike taken m n →
        system.halted (m.harts t.hart) ≡ false → Taking taken (step_of system m t) → step_of system m t ≡ step_of system n t
    step_alike taken m n t mine alike runs takes =
        (λ i. record { hart = t.hart; found = m.harts t.hart; input = t.input; effect = effect_is i }) ∙ ap shape found_is
      where
        found_is : m.harts t.hart ≡ n.harts t.hart
        found_is = subst (λ g. m.harts g ≡ n.harts g) (sym mine) alike.hart_is

        effect_is : system.effect (m.harts t.hart) t.input m.pages ≡ system.effect (m.harts t.hart) t.input n.pages
        effect_is = system.local (m.harts t.hart) t.input m.pages n.pages runs (λ page touched. alike.pages page (takes page touched))

        shape : Hart → Step Hart Page Input
        shape x = record { hart = t.hart; found = x; input = t.input; effect = system.effect x t.input n.pages }

    after_alike : (taken : ℕ → Bool) (m n : Machine Hart Page) (s : Step Hart Page Input) → s.hart ≡ h → IsAlike taken m n →
        IsAlike taken (after m s) (after n s)
    after_alike taken m n s mine alike =
        record {
          hart_is = put_same m.harts s.hart h s.effect.hart mine ∙ sym (put_same n.harts s.hart h s.effect.hart mine);
          pages = λ page is. written_at m.pages n.pages s.effect.write page (alike.pages page is);
        }

    join_alike : (taken : ℕ → Bool) (m n : Machine Hart Page) (t : Turn Input) (turns : List (Turn Input)) → step_of system m t ≡ step_of system n t →
        RunsAlike taken (after m (step_of system m t)) (after n (step_of system m t)) turns → RunsAlike taken m n (t ∷ turns)
    join_alike taken m n t turns step_is rest =
        record {
          steps_are =
              (λ i. step_is i ∷ steps system (after m (step_of system m t)) turns) ∙
              ap (λ rest. step_of system n t ∷ rest) (rest.steps_are ∙ ap (λ s. steps system (after n s) turns) step_is);
          ends = subst (λ s. IsAlike taken (run system m (t ∷ turns)) (run system (after n s) turns)) step_is rest.ends;
        }

    -- they take the same steps, and agree again at the end
    pub run_alike : (taken : ℕ → Bool) (m n : Machine Hart Page) (turns : List (Turn Input)) → Mine turns → IsAlike taken m n → Runs system m turns →
        Each (Taking taken) (steps system m turns) → RunsAlike taken m n turns
    run_alike taken m n [] mine alike runs all = record { steps_are = refl; ends = alike }
    run_alike taken m n (t ∷ turns) mine alike runs all =
        join_alike taken m n t turns (step_alike taken m n t mine.0 alike runs.0 all.0)
        (
        run_alike taken (after m (step_of system m t)) (after n (step_of system m t)) turns mine.1
        (after_alike taken m n (step_of system m t) mine.0 alike) runs.1 all.1
        )
