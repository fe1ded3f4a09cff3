-- A step's loop, from what its code has.
use Rattle.std.proofs.Common.{◌≡◌, ℕ, ◌+◌, ◌<◌, ◌^◌, ◌-◌, false, List, length, slice_get, slice_set, slice_index_or, Some, ap, sym, subst, ◌∙◌, arith}
use Rattle.ft_types.specs.declared.names.Want.{Want}
use Rattle.ft_types.specs.declared.names.TheConstants.{HART_LIMIT, HART_ROW, PAGE_LIMIT}
use Rattle.input_log.specs.declared.Input.{Input}
use Rattle.rv32_hart.specs.Hart.{Hart}
use Rattle.rv32_hart.specs.Ram.{Ram}
use Rattle.rv32_hart.specs.Step.{IsTaken, IsMissing}
use Rattle.rv32_hart.proofs.Wanted.{missing_there}
use Rattle.hart_lease.proofs.steps.After.{taken_counted}
use Rattle.log_audit.specs.declared.marks.Uses.{Uses}
use Rattle.log_audit.specs.machinery.Marks.{uses_at, noted_at, IsMarkedBelow, IsClear, StandsAgainst}
use Rattle.log_audit.specs.machinery.Asking.{no_rights, granted}
use Rattle.log_audit.specs.machinery.Covered.{HartsView, AreHarts, TakesStep, Clashes}
use Rattle.log_audit.proofs.Asking.{IsAsking, lacking}
use Rattle.log_audit.proofs.StepAnswers.{there_below, read_state, done_answer, clash_answer, asked_answer, fewer_lacking, taken_pages, harts_still, set_found, asking_as}

module _ (hart : ℕ) (inputs : List Input) (before : List ℕ) (u v : HartsView) (view : u ≡ v) (lt : hart < length v.harts) (harts : List Hart)
    (harts_are : harts ≡ u.harts) (index : ℕ) (index_is : index ≡ hart) (state : Hart) (state_is : state ≡ slice_index_or harts index state) where
  state_at : (k : Hart) → slice_get v.harts hart ≡ Some k → state ≡ k
  state_at = read_state harts v.harts hart index state (harts_are ∙ ap (λ (s : HartsView). s.harts) view) index_is state_is

  place : (k : Hart) × (slice_get v.harts hart ≡ Some k)
  place = there_below v.harts hart lt

  pub step_runs : ((k : Hart) → slice_get v.harts hart ≡ Some k → (k.halted ≡ false) × (k.count < 2 ^ 48 - 1)) →
      (state.halted ≡ false) × (state.count < 2 ^ 48 - 1)
  step_runs runs =
      subst (λ (k : Hart). (k.halted ≡ false) × (k.count < 2 ^ 48 - 1)) (sym (state_at place.0 place.1)) (runs place.0 place.1)

  pub put_back : (after : Hart) → after ≡ state → slice_set harts index after ≡ u.harts
  put_back after kept =
      set_found harts index after
      (ap (λ (hs : List Hart). slice_get hs index) (harts_are ∙ ap (λ (s : HartsView). s.harts) view) ∙ (ap (slice_get v.harts) index_is ∙ place.1)
      ∙ ap Some (sym (kept ∙ state_at place.0 place.1)))
      ∙ harts_are

  module _ (marks : (h : Hart) → slice_get v.harts hart ≡ Some h → IsMarkedBelow v.pages hart (h.count + 1)) (begun : Ram)
      (begun_is : begun ≡ no_rights u.pages.contents) (r : Ram) (now : List Uses)
      (asking : (h : Hart) → slice_get u.harts hart ≡ Some h → IsAsking hart h inputs before begun.contents u.pages.uses r now) where
    contents : begun.contents ≡ v.pages.contents
    contents = ap (λ (x : Ram). x.contents) begun_is ∙ ap (λ (s : HartsView). s.pages.contents) view

    asking_at : (k : Hart) → slice_get v.harts hart ≡ Some k → IsAsking hart k inputs before v.pages.contents v.pages.uses r now
    asking_at k there =
        subst (λ (l : List (List ℕ)). IsAsking hart k inputs before l v.pages.uses r now) contents
        (subst (λ (l : List Uses). IsAsking hart k inputs before begun.contents l r now) (ap (λ (s : HartsView). s.pages.uses) view)
        (asking k (ap (λ (s : HartsView). slice_get s.harts hart) view ∙ there)))

    asked : IsAsking hart place.0 inputs before v.pages.contents v.pages.uses r now
    asked = asking_at place.0 place.1

    stays : (c : HartsView) (after : Hart) → AreHarts u → (after.number ≡ state.number) × (after.harts ≡ state.harts) → c.start ≡ u.start →
        c.harts ≡ slice_set harts index after → length c.pages.contents ≡ length r.contents → c.pages.uses ≡ now → AreHarts c
    stays c after are same start put pages uses =
        harts_still u c hart after are (subst (λ (s : HartsView). hart < length s.harts) (sym view) lt)
        (λ k there. let is = state_at k (sym (ap (λ (s : HartsView). slice_get s.harts hart) view) ∙ there) in (
          same.0 ∙ ap (λ (x : Hart). x.number) is,
          same.1 ∙ ap (λ (x : Hart). x.harts) is,
        ))
        start (put ∙ ap (λ (hs : List Hart). slice_set hs index after) harts_are ∙ ap (λ (i : ℕ). slice_set u.harts i after) index_is)
        (pages ∙ ap (λ (l : List (List ℕ)). length l) asked.same ∙ sym (ap (λ (s : HartsView). length s.pages.contents) view))
        (ap (λ (l : List Uses). length l) uses ∙ asked.many ∙ sym (ap (λ (s : HartsView). length s.pages.uses) view))

    -- the harts and pages stay in their places in a step that is taken, and in one that is not
    pub stays_taken : (c : HartsView) (after : Hart) (left : Ram) → AreHarts u → IsTaken inputs state r after left → c.start ≡ u.start →
        c.harts ≡ slice_set harts index after → c.pages.contents ≡ left.contents → c.pages.uses ≡ now → AreHarts c
    stays_taken c after left are taken start put pages uses =
        let t = taken_counted inputs state after r left taken in
        stays c after are (t.number, t.harts) start put (ap (λ (l : List (List ℕ)). length l) pages ∙ taken_pages inputs state r after left taken) uses

    pub stays_kept : (c : HartsView) (after : Hart) (left : Ram) → AreHarts u → after ≡ state → left ≡ r → c.start ≡ u.start →
        c.harts ≡ slice_set harts index after → c.pages.contents ≡ left.contents → c.pages.uses ≡ now → AreHarts c
    stays_kept c after left are same kept start put pages uses =
        stays c after are (ap (λ (x : Hart). x.number) same, ap (λ (x : Hart). x.harts) same) start put
        (ap (λ (l : List (List ℕ)). length l) pages ∙ ap (λ (x : Ram). length x.contents) kept) uses

    pub step_done : (after : Hart) (left : Ram) (c : HartsView) → IsTaken inputs state r after left → c.start ≡ u.start → c.befores ≡ u.befores →
        c.harts ≡ slice_set harts index after → c.pages.contents ≡ left.contents → c.pages.uses ≡ now → (h : Hart) → slice_get v.harts hart ≡ Some h →
        TakesStep hart h inputs before v c
    step_done after left c taken start befores put pages uses h found =
        done_answer hart inputs before v marks state r now state_at asking_at after left c taken (start ∙ ap (λ (s : HartsView). s.start) view)
        (befores ∙ ap (λ (s : HartsView). s.befores) view)
        (put ∙ ap (λ (hs : List Hart). slice_set hs index after) (harts_are ∙ ap (λ (s : HartsView). s.harts) view)
        ∙ ap (λ (i : ℕ). slice_set v.harts i after) index_is)
        pages uses h found

    module _ (page : ℕ) (want : Want) (missing : IsMissing inputs state r (page, want)) where
      pub page_marked : AreHarts u → page < length now
      page_marked are =
          let lt = (missing_there state inputs r page want missing).0 in
          let pages : length r.contents ≡ length v.pages.contents = ap (λ (l : List (List ℕ)). length l) asked.same in
          let marks : length v.pages.uses ≡ length v.pages.contents =
          sym (ap (λ (s : HartsView). length s.pages.uses) view) ∙ are.marks ∙ ap (λ (s : HartsView). length s.pages.contents) view in
          let many : length now ≡ length v.pages.uses = asked.many in
          omega (arith, lt, pages, marks, many)

      pub fewer_rights : (left next : Ram) → page < PAGE_LIMIT → left ≡ r → next ≡ granted left page want →
          lacking next.readable + lacking next.writable < lacking r.readable + lacking r.writable
      fewer_rights left next few kept right =
          subst (λ (x : Ram). lacking x.readable + lacking x.writable < lacking r.readable + lacking r.writable)
          (sym (right ∙ ap (λ (x : Ram). granted x page want) kept))
          (fewer_lacking hart inputs before v marks state r now state_at asking_at place.0 place.1 page want few missing)

      module _ (i : ℕ) (i_is : i ≡ hart) (first : Hart) (first_is : first ≡ slice_index_or u.harts i first) (count : ℕ) (count_is : count ≡ first.count) where
        counted : (k : Hart) → slice_get v.harts hart ≡ Some k → count ≡ k.count
        counted k there =
            count_is ∙ ap (λ (x : Hart). x.count) (read_state u.harts v.harts hart i first (ap (λ (s : HartsView). s.harts) view) i_is first_is k there)

        pub step_clash : (one other : ℕ × ℕ) → one ≡ (hart, count) → StandsAgainst now page hart want before other → (h : Hart) →
            slice_get v.harts hart ≡ Some h → (one ≡ (hart, h.count)) × Clashes hart h inputs before v page other
        step_clash one other one_is against h found = (
          one_is ∙ ap (λ (n : ℕ). let p : ℕ × ℕ = (hart, n) in p) (counted h found),
          clash_answer hart inputs before v marks state r now state_at asking_at page want other missing against h found,
        )

        pub asked_next : (left next : Ram) (then : List Uses) → AreHarts u → i < HART_LIMIT → left ≡ r → next ≡ granted left page want →
            then ≡ noted_at now page hart want (count + 1) → (length (uses_at now page).read ≡ HART_ROW) × (length (uses_at now page).written ≡ HART_ROW) →
            IsClear now page hart want before → (k : Hart) → slice_get u.harts hart ≡ Some k →
            IsAsking hart k inputs before begun.contents u.pages.uses next then
        asked_next left next then are few kept right noted rows clear k there =
            let found : slice_get v.harts hart ≡ Some k = sym (ap (λ (s : HartsView). slice_get s.harts hart) view) ∙ there in
            asking_as hart k inputs before v.pages.contents begun.contents v.pages.uses u.pages.uses (granted r page want) next
            (noted_at now page hart want (k.count + 1)) then contents (ap (λ (s : HartsView). s.pages.uses) view)
            (right ∙ ap (λ (x : Ram). granted x page want) kept) (noted ∙ ap (λ (n : ℕ). noted_at now page hart want (n + 1)) (counted k found))
            (asked_answer hart inputs before v marks state r now state_at asking_at page want missing (page_marked are) rows.0 rows.1
            (omega (arith, i_is, few)) clear k found)
