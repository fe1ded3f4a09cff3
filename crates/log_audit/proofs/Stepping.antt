-- A covered run takes one step more, or a step that clashes shows two that nothing orders.
use Rattle.std.proofs.Common.{◌≡◌, ◌⊎◌, inl, inr, ℕ, ◌+◌, ◌<◌, ◌≤◌, List, [], ◌∷◌, ◌++◌, Some, Contains, length, slice_index}
use Rattle.std.proofs.Common.{refl, sym, ap, subst, ◌∙◌, arith}
use Rattle.std.proofs.Math.Path.{fun_ext}
use Rattle.std.proofs.lemmas.List.Elements.{Contains-append_left, Contains-push}
use Rattle.ft_types.specs.Counts.{count_at}
use Rattle.interleaving.specs.Lists.{Each}
use Rattle.interleaving.specs.Machine.{Writes}
use Rattle.interleaving.specs.Log.{Place, Before, IsMet, IsOrdered, Conflict, place, bump, counts_after}
use Rattle.interleaving.specs.Stored.{system_of, stored_after}
use Rattle.interleaving.proofs.Cuts.{here_or_later}
use Rattle.interleaving.proofs.Each.{each_at, each_more, each_append, pairs_append}
use Rattle.ft_types.specs.declared.names.TheConstants.{HART_LIMIT}
use Rattle.input_log.specs.declared.Input.{Input}
use Rattle.rv32_hart.specs.Hart.{Hart}
use Rattle.rv32_hart.specs.Hardware.{hardware}
use Rattle.guest_image.specs.Machine.{MachineState}
use Rattle.hart_lease.specs.Runs.{run_of, counts_of}
use Rattle.hart_lease.proofs.journals.Sizes.{IsAsLarge, as_large}
use Rattle.hart_replay.specs.declared.plans.PlannedLeg.{PlannedLeg}
use Rattle.hart_replay.specs.Plans.{IsLeg, log_of}
use Rattle.hart_replay.specs.Replays.{leg_turns}
use Rattle.log_audit.specs.declared.befores.Before.{Before as Entry}
use Rattle.log_audit.specs.machinery.Befores.{row_of}
use Rattle.log_audit.specs.machinery.Marks.{read_mark, written_mark}
use Rattle.log_audit.specs.Coverage.{TakenStep, steps_in, place_in, AreUncovered}
use Rattle.log_audit.specs.machinery.Covered.{HartsView, machine_of, IsKnown, IsNoted, IsMarkOf, IsCovered, effect_in, TakesStep, Clashes}
use Rattle.log_audit.proofs.Appending.{counts_after_more}
use Rattle.log_audit.proofs.Covering.{taken_touch, taken_of_crew}
use Rattle.log_audit.proofs.NextMarks.{counts_next, noted_still, noted_next, read_marks_next, written_marks_next}
use Rattle.log_audit.proofs.NextStep.{lifted_from, lifted_to, step_next, run_more, steps_more, begins_next}

module _ (leg : PlannedLeg) (order : List ℕ) (reach : ℕ → ℕ) (b : HartsView) (covered : IsCovered leg order reach b) (hart : ℕ) (h : Hart)
    (inputs : List Input) (given : inputs ≡ (log_of leg).inputs hart h.count) (below : h.count < count_at leg.ends hart)
    (met : IsMet (log_of leg).edges (counts_of (machine_of b)) hart) (before : List ℕ) where
  module _ (c : HartsView) (took : TakesStep hart h inputs before b c) where
    -- ---- conflicts are ordered

    module _ (is_leg : IsLeg (length b.start.harts) leg) (few : length b.start.harts ≤ HART_LIMIT)
        (sound : (g x : ℕ) → x < slice_index before g →
        Before (log_of leg).edges (record { hart = g; step = x }) (record { hart = hart; step = h.count })) where
      across : (s : TakenStep) → Contains (steps_in leg b.start order) s →
          Conflict (system_of (hardware (length b.start.pages))) s (step_next b hart h inputs) →
          Before (log_of leg).edges (place_in b.start s) (record { hart = hart; step = h.count })
      across s taken (ne, (page, touches, touches_next, writes)) =
          sound s.hart (place_in b.start s).step (elim writes [ inl first ↦ written_first first | inr next ↦ written_next next ])
        where
          noted : IsNoted b.start b.pages s
          noted = each_at (IsNoted b.start b.pages) (steps_in leg b.start order) s covered.noted taken

          there : s.hart < HART_LIMIT
          there =
              let less : s.hart < length b.start.harts =
              each_at (λ (s : TakenStep). s.hart < length b.start.harts) (steps_in leg b.start order) s
              (taken_of_crew leg order reach b covered (length b.start.harts) is_leg) taken in
              omega (arith, less, few)

          clear : written_mark b.pages page s.hart ≤ slice_index before s.hart
          clear = took.clear page s.hart touches_next there ne

          written_first : Writes s.effect page → (place_in b.start s).step < slice_index before s.hart
          written_first w = let less = (noted page).1 w in omega (arith, less, clear)

          written_next : Writes (step_next b hart h inputs).effect page → (place_in b.start s).step < slice_index before s.hart
          written_next w =
              let le = took.clear_to_write page s.hart (lifted_from (length b.start.pages) (effect_in b h inputs) page w) there ne in
              elim ((noted page).0 touches) [ inl less ↦ omega (arith, less, le) | inr less ↦ omega (arith, less, clear) ]

      ordered_next : IsOrdered (system_of (hardware (length b.start.pages))) (log_of leg).edges
          (steps_in leg b.start order ++ step_next b hart h inputs ∷ [])
      ordered_next =
          pairs_append Ordered (steps_in leg b.start order) (step_next b hart h inputs ∷ []) covered.ordered (tt, tt)
          (λ s t taken next.
          elim (here_or_later (step_next b hart h inputs) [] t next) [
            | inl is ↦ subst (λ (t : TakenStep). Ordered s t) is (across s taken)
            | inr (k, less, is) ↦ absurd (omega (arith, less))
          ])
        where
          Ordered : TakenStep → TakenStep → Type 0
          Ordered s t =
              Conflict (system_of (hardware (length b.start.pages))) s t →
              Before (log_of leg).edges (place (system_of (hardware (length b.start.pages))) s) (place (system_of (hardware (length b.start.pages))) t)

      -- it is covered, once more is known of the edges
      pub covered_stepped : IsKnown (log_of leg).edges (counts_of (machine_of c)) (counts_of (machine_of c)) c.befores →
          IsCovered leg (order ++ hart ∷ []) (counts_of (machine_of c)) c
      covered_stepped known =
          subst (λ (m : MachineState). IsCovered leg (order ++ hart ∷ []) (counts_of (machine_of c)) (from m)) (sym took.start)
          (record {
            begins = begins_next leg order reach b covered hart h inputs took.found took.running given below met;
            run = ran;
            pages = large.pages;
            harts = large.harts;
            counts = counts;
            wide = λ g x there.
                covered.wide g x (subst (λ (rows : List (List Entry)). Contains (row_of rows g) x) took.befores there);
            ordered =
                subst (λ (taken : List TakenStep). IsOrdered (system_of (hardware (length b.start.pages))) (log_of leg).edges taken) (sym taken_are)
                ordered_next;
            noted =
                subst (λ (taken : List TakenStep). Each (IsNoted b.start c.pages) taken) (sym taken_are)
                (each_append (IsNoted b.start c.pages) (steps_in leg b.start order) (step_next b hart h inputs ∷ [])
                (each_more (IsNoted b.start b.pages) (IsNoted b.start c.pages) (noted_still leg order reach b covered hart h inputs before c took)
                (steps_in leg b.start order) covered.noted) (noted_next leg order reach b covered hart h inputs before c took, tt));
            read_marks =
                λ page g.
                subst
                (λ (taken : List TakenStep).
                (read_mark c.pages page g ≡ 0) ⊎ IsMarkOf b.start taken (λ s. Contains s.effect.touched page) g (read_mark c.pages page g))
                (sym taken_are) (read_marks_next leg order reach b covered hart h inputs before c took page g);
            written_marks =
                λ page g.
                subst
                (λ (taken : List TakenStep).
                (written_mark c.pages page g ≡ 0) ⊎ IsMarkOf b.start taken (λ s. Writes s.effect page) g (written_mark c.pages page g))
                (sym taken_are) (written_marks_next leg order reach b covered hart h inputs before c took page g);
            known = known;
          })
        where
          from : MachineState → HartsView
          from m = record { start = m; harts = c.harts; pages = c.pages; befores = c.befores }

          taken_are : steps_in leg b.start (order ++ hart ∷ []) ≡ steps_in leg b.start order ++ step_next b hart h inputs ∷ []
          taken_are = steps_more leg order reach b covered hart h inputs took.found took.running given

          machine_is : stored_after (machine_of b) hart (effect_in b h inputs) ≡ machine_of c
          machine_is = λ i. record { harts = sym took.harts i; pages = sym took.contents i }

          ran : run_of b.start (leg_turns leg (order ++ hart ∷ [])) ≡ Some (machine_of c)
          ran = run_more leg order reach b covered hart h inputs took.found took.running given ∙ ap Some machine_is

          large : IsAsLarge b.start (machine_of c)
          large = as_large b.start (machine_of c) (leg_turns leg (order ++ hart ∷ [])) ran

          counts : (g : ℕ) → counts_after (log_of leg).start (order ++ hart ∷ []) g ≡ counts_of (machine_of c) g
          counts g =
              ap (λ (now : ℕ → ℕ). now g) (counts_after_more (log_of leg).start order hart)
              ∙ ap (λ (now : ℕ → ℕ). bump now hart g) (fun_ext covered.counts)
              ∙ sym (counts_next leg order reach b covered hart h inputs before c took g)

  -- ---- a clash

  clash_of : (page : ℕ) (other : ℕ × ℕ) → Clashes hart h inputs before b page other →
      (Before (log_of leg).edges (record { hart = other.0; step = other.1 }) (record { hart = hart; step = h.count }) → ⊥) →
      (Before (log_of leg).edges (record { hart = hart; step = h.count }) (record { hart = other.0; step = other.1 }) → ⊥) →
      (wanted : TakenStep → Type 0) (mark : ℕ) → mark ≡ other.1 + 1 → (mark ≡ 0) ⊎ IsMarkOf b.start (steps_in leg b.start order) wanted other.0 mark →
      ((s : TakenStep) → Contains (steps_in leg b.start order) s → wanted s →
      Contains s.effect.touched page × (Writes (step_next b hart h inputs).effect page ⊎ Writes s.effect page)) →
      AreUncovered leg b.start page (hart, h.count) other
  clash_of page other clashes not_before not_after wanted mark is (inl none) gives = absurd (omega (arith, is, none))
  clash_of page other clashes not_before not_after wanted mark is (inr (s, taken, own, last, rest)) gives =
      record {
        order = order ++ hart ∷ [];
        begins = begins_next leg order reach b covered hart h inputs clashes.found clashes.running given below met;
        machine = stored_after (machine_of b) hart (effect_in b h inputs);
        run = run_more leg order reach b covered hart h inputs clashes.found clashes.running given;
        apart = λ e. clashes.on_other (sym e);
        first = step_next b hart h inputs;
        first_taken =
            subst (λ (xs : List TakenStep). Contains xs (step_next b hart h inputs)) (sym taken_are)
            (Contains-push (steps_in leg b.start order) (step_next b hart h inputs));
        first_is = refl;
        second = s;
        second_taken =
            subst (λ (xs : List TakenStep). Contains xs s) (sym taken_are)
            (Contains-append_left (steps_in leg b.start order) (step_next b hart h inputs ∷ []) s taken);
        second_is = second_is;
        first_touches = clashes.touches;
        second_touches = (gives s taken rest).0;
        writes = (gives s taken rest).1;
        not_before = λ e. not_after (subst (λ (p : Place). Before (log_of leg).edges (record { hart = hart; step = h.count }) p) second_is e);
        not_after = λ e. not_before (subst (λ (p : Place). Before (log_of leg).edges p (record { hart = hart; step = h.count })) second_is e);
      }
    where
      taken_are : steps_in leg b.start (order ++ hart ∷ []) ≡ steps_in leg b.start order ++ step_next b hart h inputs ∷ []
      taken_are = steps_more leg order reach b covered hart h inputs clashes.found clashes.running given

      step_is : (place_in b.start s).step ≡ other.1
      step_is = omega (arith, last, is)

      second_is : place_in b.start s ≡ record { hart = other.0; step = other.1 }
      second_is = λ i. record { hart = own i; step = step_is i }

  -- the two steps are in no order
  pub clash_uncovered : (page : ℕ) (other : ℕ × ℕ) → Clashes hart h inputs before b page other →
      (Before (log_of leg).edges (record { hart = other.0; step = other.1 }) (record { hart = hart; step = h.count }) → ⊥) →
      (Before (log_of leg).edges (record { hart = hart; step = h.count }) (record { hart = other.0; step = other.1 }) → ⊥) →
      AreUncovered leg b.start page (hart, h.count) other
  clash_uncovered page other clashes not_before not_after =
      elim clashes.last [
        | inl is ↦
            clash_of page other clashes not_before not_after (λ s. Writes s.effect page) (written_mark b.pages page other.0) is
            (covered.written_marks page other.0)
            (λ s taken writes. (
              each_at Touches (steps_in leg b.start order) s (taken_touch leg order reach b covered) taken page writes,
              inr writes,
            ))
        | inr (is, writes) ↦
            clash_of page other clashes not_before not_after (λ s. Contains s.effect.touched page) (read_mark b.pages page other.0) is
            (covered.read_marks page other.0)
            (λ s taken touches. (touches, inl (lifted_to (length b.start.pages) (effect_in b h inputs) page writes)))
      ]
    where
      Touches : TakenStep → Type 0
      Touches s = (page : ℕ) → Writes s.effect page → Contains s.effect.touched page
