-- Machines whose harts and pages stand in lists.
use Rattle.std.proofs.Common.{◌≡◌, ◌≢◌, ◌⊎◌, inl, inr, ℕ, zero, suc, ◌<◌, true, false, List, [], ◌∷◌, Option, Some, None, MatchOption, option_map, slice_get}
use Rattle.std.proofs.Common.{slice_set, length, refl, sym, ap, subst, ◌∙◌, arith, true≢false}
use Rattle.std.proofs.lemmas.Bool.{cases_Bool}
use Rattle.std.proofs.lemmas.Option.{slice_get_within}
use Rattle.interleaving.specs.Lists.{put}
use Rattle.interleaving.specs.Machine.{Turn, Step, Write, written, after, step_of, Runs, run, at}
use Rattle.interleaving.specs.Log.{turns_of, IsReplayed}
use Rattle.interleaving.specs.Stored.{Store, Hardware, written_in, stored_after, goes, run_from, halted_of, effect_of, system_of, view, RunsStored, StoredRuns}
use Rattle.interleaving.specs.Stored.{OneOutcome}
use Rattle.interleaving.proofs.Put.{same_or_not, put_same, put_other}
use Rattle.interleaving.proofs.Replay.{confluence}

pub get_set_same : {A : Type 0} (xs : List A) (i : ℕ) (x : A) → i < length xs → slice_get (slice_set xs i x) i ≡ Some x
get_set_same [] i x below = absurd (omega arith)
get_set_same (y ∷ xs) zero x below = refl
get_set_same (y ∷ xs) (suc i) x below = get_set_same xs i x (omega arith)

pub get_set_other : {A : Type 0} (xs : List A) (i j : ℕ) (x : A) → i ≢ j → slice_get (slice_set xs i x) j ≡ slice_get xs j
get_set_other [] i j x ne = refl
get_set_other (y ∷ xs) zero zero x ne = absurd (ne refl)
get_set_other (y ∷ xs) zero (suc j) x ne = refl
get_set_other (y ∷ xs) (suc i) zero x ne = refl
get_set_other (y ∷ xs) (suc i) (suc j) x ne = get_set_other xs i j x (λ e. ne (ap suc e))

-- a write to a list is a `put`
pub get_set : {A : Type 0} (xs : List A) (i : ℕ) (x : A) → i < length xs →
    slice_get (slice_set xs i x) ≡ put (slice_get xs) i (Some x)
get_set {A} xs i x below = λ p j. at_each j (same_or_not i j) p
  where
    at_each : (j : ℕ) → (i ≡ j) ⊎ (i ≢ j) → slice_get (slice_set xs i x) j ≡ put (slice_get xs) i (Some x) j
    at_each j (inl same) =
        subst (λ j. slice_get (slice_set xs i x) j ≡ Some x) same (get_set_same xs i x below) ∙
        sym (put_same (slice_get xs) i j (Some x) same)
    at_each j (inr ne) = get_set_other xs i j x ne ∙ sym (put_other (slice_get xs) i j (Some x) ne)

-- a list is what stands at each number
pub list_from_gets : {A : Type 0} (xs ys : List A) → ((i : ℕ) → slice_get xs i ≡ slice_get ys i) → xs ≡ ys
list_from_gets [] [] same = refl
list_from_gets [] (y ∷ ys) same = let e = same 0 in cc
list_from_gets (x ∷ xs) [] same = let e = same 0 in cc
list_from_gets (x ∷ xs) (y ∷ ys) same =
    let e = same 0 in
    let r : xs ≡ ys = list_from_gets xs ys (λ i. same (suc i)) in cc

module _ {Hart Page Input : Type 0} (hardware : Hardware Hart Page Input) where
  same_store : (a b : Store Hart Page) → view hardware a ≡ view hardware b → a ≡ b
  same_store a b e =
      λ i.
      record {
        harts = list_from_gets a.harts b.harts (λ n. ap (λ m. m.harts n) e) i;
        pages = list_from_gets a.pages b.pages (λ n. ap (λ m. m.pages n) e) i;
      }

  pages_after : (pages : List Page) (w : Option (Write Page)) →
      ((page : ℕ) → MatchOption w ⊥ (λ w. w.page ≡ page) → (contents : Page) × (slice_get pages page ≡ Some contents)) →
      slice_get (written_in pages w) ≡
      written (slice_get pages) (option_map (λ w. record { page = w.page; contents = Some w.contents }) w)
  pages_after pages None there = refl
  pages_after pages (Some w) there =
      let found = there w.page refl in get_set pages w.page w.contents (slice_get_within pages w.page found.0 found.1)

  abbrev shape : Store Hart Page → Turn Input → Option Hart → Step (Option Hart) (Option Page) Input
  shape s t hart =
      record {
        hart = t.hart;
        found = hart;
        input = t.input;
        effect = effect_of hardware hart t.input
            (slice_get s.pages);
      }

  goes_on : (s : Store Hart Page) (t : Turn Input) (hart : Option Hart) → slice_get s.harts t.hart ≡ hart →
      halted_of hardware hart ≡ false →
      (next : Store Hart Page) × (goes hardware s t (slice_get s.harts t.hart) ≡ Some next) ×
      (view hardware next ≡ after (view hardware s) (step_of (system_of hardware) (view hardware s) t))
  goes_on s t None e runs = absurd (true≢false runs)
  goes_on s t (Some hart) e runs =
      (next, ap (goes hardware s t) e ∙ goes_next, view_is ∙ ap (λ o. after (view hardware s) (shape s t o)) (sym e))
    where
      next : Store Hart Page
      next = stored_after s t.hart (hardware.effect hart t.input (slice_get s.pages))

      goes_next : goes hardware s t (Some hart) ≡ Some next
      goes_next = rw runs refl

      view_is : view hardware next ≡ after (view hardware s) (shape s t (Some hart))
      view_is =
          λ i.
          record {
            harts =
                get_set s.harts t.hart (hardware.effect hart t.input (slice_get s.pages)).hart
                (slice_get_within s.harts t.hart hart e) i;
            pages =
                pages_after s.pages (hardware.effect hart t.input (slice_get s.pages)).write
                (λ page writes. hardware.there hart t.input (slice_get s.pages) page runs writes) i;
          }

  pub runs_stored : RunsStored hardware
  runs_stored s [] runs = (s, refl, refl)
  runs_stored s (t ∷ turns) runs =
      let (next, goes_is, view_is) = goes_on s t (slice_get s.harts t.hart) refl runs.0 in
      let (result, run_is, result_is) =
      runs_stored next turns (subst (λ m. Runs (system_of hardware) m turns) (sym view_is) runs.1) in (
        result,
        ap (λ o. run_from hardware o turns) goes_is ∙ run_is,
        result_is ∙
            ap (λ m. run (system_of hardware) m turns) view_is,
      )

  some_is : {A : Type 0} (a b : A) → Some a ≡ Some b → a ≡ b
  some_is a b e = cc

  not_some : {A : Type 0} (o : Option A) (a : A) → o ≡ None → o ≡ Some a → ⊥
  not_some o a e f = let g = sym e ∙ f in cc

  none_goes : (s : Store Hart Page) (t : Turn Input) (hart : Option Hart) → halted_of hardware hart ≡ true →
      goes hardware s t hart ≡ None
  none_goes s t None halted = refl
  none_goes s t (Some hart) halted = rw halted refl

  pub stored_runs : StoredRuns hardware
  stored_runs s [] result is = (tt, ap (view hardware) (sym (some_is s result is)))
  stored_runs s (t ∷ turns) result is =
      elim (cases_Bool (halted_of hardware (slice_get s.harts t.hart))) [
        | inl halted ↦
            absurd
            (not_some (run_from hardware (goes hardware s t (slice_get s.harts t.hart)) turns) result
            (ap (λ o. run_from hardware o turns) (none_goes s t (slice_get s.harts t.hart) halted)) is)
        | inr goes_is ↦
            let (next, next_is, view_is) = goes_on s t (slice_get s.harts t.hart) refl goes_is in
            let (runs, run_is) =
            stored_runs next turns result (sym (ap (λ o. run_from hardware o turns) next_is) ∙ is) in (
              (goes_is, subst (λ m. Runs (system_of hardware) m turns) view_is runs),
              run_is ∙ ap (λ m. run (system_of hardware) m turns) view_is,
            )
      ]

  pub one_outcome : OneOutcome hardware
  one_outcome log s turns cut one other honest is_cut first second =
      (result₁.0, result₁.1, result₂.1 ∙ ap Some (sym same), at₁)
    where
      replay₁ : IsReplayed (system_of hardware) log (view hardware s) turns cut one
      replay₁ = confluence (system_of hardware) log (view hardware s) turns cut one honest is_cut first.begins

      replay₂ : IsReplayed (system_of hardware) log (view hardware s) turns cut other
      replay₂ = confluence (system_of hardware) log (view hardware s) turns cut other honest is_cut second.begins

      result₁ : (result : Store Hart Page) ×
          (run_from hardware (Some s) (turns_of log.inputs log.start one) ≡ Some result) ×
          (view hardware result ≡ run (system_of hardware) (view hardware s) (turns_of log.inputs log.start one))
      result₁ = runs_stored s (turns_of log.inputs log.start one) replay₁.runs

      result₂ : (result : Store Hart Page) ×
          (run_from hardware (Some s) (turns_of log.inputs log.start other) ≡ Some result) ×
          (view hardware result ≡ run (system_of hardware) (view hardware s) (turns_of log.inputs log.start other))
      result₂ = runs_stored s (turns_of log.inputs log.start other) replay₂.runs

      at₁ : view hardware result₁.0 ≡ at (system_of hardware) (view hardware s) turns cut
      at₁ = result₁.2 ∙ replay₁.outcome first.complete

      same : result₁.0 ≡ result₂.0
      same = same_store result₁.0 result₂.0 (at₁ ∙ sym (result₂.2 ∙ replay₂.outcome second.complete))
