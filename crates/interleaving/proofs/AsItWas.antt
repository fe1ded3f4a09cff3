-- The interleaving's machine at a cut, hart by hart and page by page.
use Rattle.std.proofs.Common.{◌≡◌, ◌≢◌, ◌⊎◌, inl, inr, ℕ, ◌+◌, ◌≤◌, true, false, cond, List, [], ◌∷◌, ◌++◌, Option, Some, None, MatchOption, filter, refl, sym}
use Rattle.std.proofs.Common.{ap, subst, ◌∙◌, arith, le_trans, lt-ltb, le-ltb, ◌<◌, true≢false}
use Rattle.std.proofs.lemmas.Bool.{cases_Bool, cases_lt}
use Rattle.interleaving.specs.Lists.{Each}
use Rattle.interleaving.specs.Log.{bump}
use Rattle.interleaving.specs.Machine.{Machine, System, Turn, Step, Write, Writes, written, after, after_all, counts, step_of, steps, inside, Runs, run}
use Rattle.interleaving.specs.AsItWas.{HartAsItWas, HartWasThere, PageAsItWas, PageUnwritten, PageHasWriter}
use Rattle.interleaving.proofs.Put.{same_or_not, put_same, put_other, written_other, bump_other, bump_le}
use Rattle.interleaving.proofs.NextStep.{counts_step}
use Rattle.interleaving.proofs.Runs.{runs_front, counts_grow}

-- a page that is written does not depend on what was there
written_same : {Page : Type 0} (f g : ℕ → Page) (w : Option (Write Page)) (page : ℕ) →
    MatchOption w ⊥ (λ w. w.page ≡ page) → written f w page ≡ written g w page
written_same f g None page is = absurd is
written_same f g (Some w) page is = put_same f w.page page w.contents is ∙ sym (put_same g w.page page w.contents is)

module _ {Hart Page Input : Type 0} (system : System Hart Page Input) (cut : ℕ → ℕ) where
  -- the effects of the steps inside the cut, on a machine that may have missed some
  abbrev cut_from : Machine Hart Page → Machine Hart Page → List (Turn Input) → Machine Hart Page
  cut_from c m turns = after_all c (filter (inside system cut) (steps system m turns))

  unwritten : (c m : Machine Hart Page) (turns : List (Turn Input)) (page : ℕ) →
      Each (λ s. inside system cut s ≡ true → Writes s.effect page → ⊥) (steps system m turns) →
      (cut_from c m turns).pages page ≡ c.pages page
  unwritten c m [] page none = refl
  unwritten c m (a ∷ turns) page none =
      elim (cases_Bool (inside system cut (step_of system m a))) [
        | inl is_inside ↦
            rw is_inside
            (
            unwritten (after c (step_of system m a)) (after m (step_of system m a)) turns page none.1 ∙
            written_other c.pages (step_of system m a).effect.write page (none.0 is_inside)
            )
        | inr outside ↦ rw outside (unwritten c (after m (step_of system m a)) turns page none.1)
      ]

  last_written : (c m : Machine Hart Page) (front rest : List (Turn Input)) (t : Turn Input) (page : ℕ) →
      inside system cut (step_of system (run system m front) t) ≡ true →
      Writes (step_of system (run system m front) t).effect page →
      Each (λ s. inside system cut s ≡ true → Writes s.effect page → ⊥)
      (steps system (run system m (front ++ t ∷ [])) rest) →
      (cut_from c m (front ++ t ∷ rest)).pages page ≡ (run system m (front ++ t ∷ [])).pages page
  last_written c m [] rest t page is_inside writes none =
      rw is_inside
      (
      unwritten (after c (step_of system m t)) (after m (step_of system m t)) rest page none ∙
      written_same c.pages m.pages (step_of system m t).effect.write page writes
      )
  last_written c m (a ∷ front) rest t page is_inside writes none =
      elim (inside system cut (step_of system m a)) as
      (λ b.
      (after_all c
      (cond b (step_of system m a ∷ filter (inside system cut)
      (steps system (after m (step_of system m a)) (front ++ t ∷ rest)))
      (filter (inside system cut) (steps system (after m (step_of system m a)) (front ++ t ∷ rest))))).pages page ≡
      (run system m ((a ∷ front) ++ t ∷ [])).pages page) [
        | true ↦
            last_written (after c (step_of system m a))
            (after m (step_of system m a)) front rest t page is_inside writes none
        | false ↦ last_written c (after m (step_of system m a)) front rest t page is_inside writes none
      ]

  later_le : (m : Machine Hart Page) (a : Turn Input) (hart n : ℕ) → system.halted (m.harts a.hart) ≡ false →
      n ≤ counts system m hart →
      n ≤ counts system (after m (step_of system m a)) hart
  later_le m a hart n runs le =
      subst (λ k. n ≤ k hart) (sym (counts_step system m a runs)) (le_trans le (bump_le (counts system m) a.hart hart))

  -- a hart that has reached the cut
  hart_outside : (c m : Machine Hart Page) (turns : List (Turn Input)) (hart : ℕ) → Runs system m turns →
      cut hart ≤ counts system m hart →
      (cut_from c m turns).harts hart ≡ c.harts hart
  hart_outside c m [] hart runs reached = refl
  hart_outside c m (a ∷ turns) hart runs reached =
      elim (same_or_not a.hart hart) [
        | inl same ↦
            rw (le-ltb (counts system m a.hart) (cut a.hart)
            (subst (λ h. cut h ≤ counts system m h) (sym same) reached))
            (hart_outside c (after m (step_of system m a)) turns hart runs.1
            (later_le m a hart (cut hart) runs.0 reached))
        | inr ne ↦
            elim (inside system cut (step_of system m a)) as
            (λ b.
            (after_all c
            (cond b (step_of system m a ∷ filter (inside system cut)
            (steps system (after m (step_of system m a)) turns))
            (filter (inside system cut) (steps system (after m (step_of system m a)) turns)))).harts hart ≡
            c.harts hart) [
              | true ↦
                  hart_outside (after c (step_of system m a)) (after m (step_of system m a)) turns hart runs.1
                  (later_le m a hart (cut hart) runs.0 reached) ∙
                  put_other c.harts a.hart hart (step_of system m a).effect.hart ne
              | false ↦
                  hart_outside c (after m (step_of system m a)) turns hart runs.1
                  (later_le m a hart (cut hart) runs.0 reached)
            ]
      ]

  hart_from : (c m : Machine Hart Page) (front rest : List (Turn Input)) (hart : ℕ) → Runs system m (front ++ rest) →
      c.harts hart ≡ m.harts hart →
      counts system (run system m front) hart ≡ cut hart →
      (cut_from c m (front ++ rest)).harts hart ≡ (run system m front).harts hart
  hart_from c m [] rest hart runs same at_cut = hart_outside c m rest hart runs (omega arith) ∙ same
  hart_from c m (a ∷ front) rest hart runs same at_cut =
      elim (cases_lt (counts system m a.hart) (cut a.hart)) [
        | inl less ↦
            rw (lt-ltb (counts system m a.hart) (cut a.hart) less)
            (hart_from (after c (step_of system m a)) (after m (step_of system m a)) front rest hart runs.1
            (both (same_or_not a.hart hart)) at_cut)
        | inr over ↦
            rw (le-ltb (counts system m a.hart) (cut a.hart) over)
            (
            hart_from c (after m (step_of system m a)) front rest hart runs.1
            (same ∙ sym (put_other m.harts a.hart hart (step_of system m a).effect.hart (passed over))) at_cut
            )
      ]
    where
      both : (a.hart ≡ hart) ⊎ (a.hart ≢ hart) →
          (after c (step_of system m a)).harts hart ≡ (after m (step_of system m a)).harts hart
      both (inl is) =
          put_same c.harts a.hart hart (step_of system m a).effect.hart is ∙
          sym (put_same m.harts a.hart hart (step_of system m a).effect.hart is)
      both (inr ne) =
          put_other c.harts a.hart hart (step_of system m a).effect.hart ne ∙
          (same ∙ sym (put_other m.harts a.hart hart (step_of system m a).effect.hart ne))

      passed : cut a.hart ≤ counts system m a.hart → a.hart ≢ hart
      passed over is =
          let moved : counts system (after m (step_of system m a)) hart ≡ counts system m a.hart + 1 =
          ap (λ k. k hart) (counts_step system m a runs.0) ∙
          put_same (counts system m) a.hart hart (counts system m a.hart + 1) is in
          let next : Machine Hart Page = after m (step_of system m a) in
          let grown : counts system next hart ≤ counts system (run system next front) hart =
          counts_grow system next front (runs_front system next front rest runs.1) hart in
          let over_hart : cut hart ≤ counts system m a.hart = subst (λ h. cut h ≤ counts system m a.hart) is over in
          omega arith

pub hart_as_it_was : {Hart Page Input : Type 0} (system : System Hart Page Input) → HartAsItWas system
hart_as_it_was system m front rest cut hart runs at_cut = hart_from system cut m m front rest hart runs refl at_cut

pub page_as_it_was : {Hart Page Input : Type 0} (system : System Hart Page Input) → PageAsItWas system
page_as_it_was system m front t rest cut page last =
    last_written system cut m m front rest t page last.is_inside last.writes last.none_later

pub page_unwritten : {Hart Page Input : Type 0} (system : System Hart Page Input) → PageUnwritten system
page_unwritten system m turns cut page none = unwritten system cut m m turns page none

pub hart_was_there : {Hart Page Input : Type 0} (system : System Hart Page Input) → HartWasThere system
hart_was_there system m [] cut hart runs from to = ([], [], refl, (omega arith))
hart_was_there system m (a ∷ turns) cut hart runs from to =
    elim (cases_lt (counts system m hart) (cut hart)) [
      | inl below ↦
          let (front, rest, is, reached) =
          hart_was_there system (after m (step_of system m a)) turns cut hart runs.1 (grown below) to in
          (a ∷ front, rest, ap (λ ts. a ∷ ts) is, reached)
      | inr over ↦ ([], a ∷ turns, refl, (omega arith))
    ]
  where
    counted : counts system (after m (step_of system m a)) hart ≡ bump (counts system m) a.hart hart
    counted = ap (λ n. n hart) (counts_step system m a runs.0)

    grown : counts system m hart < cut hart → counts system (after m (step_of system m a)) hart ≤ cut hart
    grown below =
        elim (same_or_not a.hart hart) [
          | inl same ↦
              let f : bump (counts system m) a.hart hart ≡ counts system m a.hart + 1 =
              put_same (counts system m) a.hart hart (counts system m a.hart + 1) same in
              let g : counts system m a.hart ≡ counts system m hart = ap (counts system m) same in
              omega (arith, counted)
          | inr ne ↦
              let f : bump (counts system m) a.hart hart ≡ counts system m hart =
              bump_other (counts system m) a.hart hart ne in
              omega (arith, counted)
        ]

writes_or_not : {Page : Type 0} (w : Option (Write Page)) (page : ℕ) →
    MatchOption w ⊥ (λ w. w.page ≡ page) ⊎ (MatchOption w ⊥ (λ w. w.page ≡ page) → ⊥)
writes_or_not None page = inr (λ h. h)
writes_or_not (Some w) page = same_or_not w.page page

pub page_has_writer : {Hart Page Input : Type 0} (system : System Hart Page Input) → PageHasWriter system
page_has_writer system m [] cut page = inl tt
page_has_writer {Hart} {Page} {Input} system m (a ∷ turns) cut page =
    elim (page_has_writer system next turns cut page) [
      | inr (front, t, rest, is, last) ↦
          inr (
            a ∷ front,
            t,
            rest,
            ap (λ ts. a ∷ ts) is,
            record { is_inside = last.is_inside; writes = last.writes; none_later = last.none_later },
          )
      | inl none ↦
          elim (cases_Bool (inside system cut s)) [
            | inr outside ↦ inl ((λ is_inside. absurd (true≢false (sym is_inside ∙ outside))), none)
            | inl is_inside ↦
                elim (writes_or_not s.effect.write page) [
                  | inl writes ↦
                      inr ([], a, turns, refl, record { is_inside = is_inside; writes = writes; none_later = none })
                  | inr not ↦ inl ((λ is_inside. not), none)
                ]
          ]
    ]
  where
    s : Step Hart Page Input
    s = step_of system m a

    next : Machine Hart Page
    next = after m s
