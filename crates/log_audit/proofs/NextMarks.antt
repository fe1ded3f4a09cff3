-- What a step leaves of counts and marks.
use Rattle.std.proofs.Common.{◌≡◌, ◌⊎◌, inl, inr, ℕ, ◌+◌, ◌<◌, ◌≤◌, List, [], ◌∷◌, ◌++◌, Contains, length, slice_get}
use Rattle.std.proofs.Common.{refl, sym, ap, subst, ◌∙◌, arith}
use Rattle.std.proofs.lemmas.List.Elements.{Contains-append_left, Contains-push}
use Rattle.std.proofs.lemmas.Option.{slice_get_within}
use Rattle.interleaving.specs.Machine.{Writes}
use Rattle.interleaving.specs.Log.{bump}
use Rattle.interleaving.proofs.Lists.{get_set_same, get_set_other}
use Rattle.interleaving.proofs.Put.{same_or_not, put_same, bump_other}
use Rattle.input_log.specs.declared.Input.{Input}
use Rattle.rv32_hart.specs.Hart.{Hart}
use Rattle.rv32_hart.specs.machinery.Local.{step_counted}
use Rattle.guest_image.specs.Machine.{MachineState}
use Rattle.hart_lease.specs.Runs.{counts_of, steps_taken}
use Rattle.hart_replay.specs.declared.plans.PlannedLeg.{PlannedLeg}
use Rattle.log_audit.specs.machinery.Marks.{read_mark, written_mark}
use Rattle.log_audit.specs.Coverage.{TakenStep, steps_in}
use Rattle.log_audit.specs.machinery.Covered.{HartsView, machine_of, IsNoted, IsMarkOf, IsCovered, effect_in, TakesStep}
use Rattle.log_audit.proofs.Covering.{marks_below}
use Rattle.log_audit.proofs.NextStep.{lifted_from, lifted_to, step_next}

-- a mark that stays, of one of more steps
still : (m : MachineState) (taken : List TakenStep) (s : TakenStep) (wanted : TakenStep → Type 0) (hart old new : ℕ) → new ≡ old →
    (old ≡ 0) ⊎ IsMarkOf m taken wanted hart old → (new ≡ 0) ⊎ IsMarkOf m (taken ++ s ∷ []) wanted hart new
still m taken s wanted hart old new same (inl none) = inl (same ∙ none)
still m taken s wanted hart old new same (inr (x, among, own, is, rest)) =
    inr (x, Contains-append_left taken (s ∷ []) x among, own, is ∙ sym same, rest)

module _ (leg : PlannedLeg) (order : List ℕ) (reach : ℕ → ℕ) (b : HartsView) (covered : IsCovered leg order reach b) (hart : ℕ) (h : Hart)
    (inputs : List Input) (before : List ℕ) (c : HartsView) (took : TakesStep hart h inputs before b c) where
  own_count : counts_of (machine_of c) hart ≡ h.count + 1
  own_count =
      ap (λ (hs : List Hart). steps_taken (slice_get hs hart)) took.harts
      ∙ ap steps_taken (get_set_same b.harts hart (effect_in b h inputs).hart (slice_get_within b.harts hart h took.found))
      ∙ step_counted (length b.pages.contents) h inputs (slice_get b.pages.contents)

  -- the hart took one step more
  pub counts_next : (g : ℕ) → counts_of (machine_of c) g ≡ bump (counts_of (machine_of b)) hart g
  counts_next g =
      elim (same_or_not hart g) [
        | inl same ↦
            let now : counts_of (machine_of b) hart ≡ h.count = ap steps_taken took.found in
            ap (counts_of (machine_of c)) (sym same) ∙ own_count ∙ ap (λ (n : ℕ). n + 1) (sym now)
            ∙ sym (put_same (counts_of (machine_of b)) hart g (counts_of (machine_of b) hart + 1) same)
        | inr ne ↦
            ap (λ (hs : List Hart). steps_taken (slice_get hs g)) took.harts
            ∙ ap steps_taken (get_set_other b.harts hart g (effect_in b h inputs).hart ne)
            ∙ sym (bump_other (counts_of (machine_of b)) hart g ne)
      ]

  -- ---- marks only grow

  read_grows : (page g : ℕ) → read_mark b.pages page g ≤ read_mark c.pages page g
  read_grows page g =
      elim (same_or_not g hart) [
        | inl same ↦ subst (λ (k : ℕ). read_mark b.pages page k ≤ read_mark c.pages page k) (sym same) own
        | inr ne ↦ let is = (took.others page g ne).0 in omega (arith, is)
      ]
    where
      own : read_mark b.pages page hart ≤ read_mark c.pages page hart
      own =
          elim (took.read page) [
            | inl is ↦ omega (arith, is)
            | inr (is, touches) ↦ let less = (marks_below leg order reach b covered hart h took.found page).0 in omega (arith, is, less)
          ]

  written_grows : (page g : ℕ) → written_mark b.pages page g ≤ written_mark c.pages page g
  written_grows page g =
      elim (same_or_not g hart) [
        | inl same ↦ subst (λ (k : ℕ). written_mark b.pages page k ≤ written_mark c.pages page k) (sym same) own
        | inr ne ↦ let is = (took.others page g ne).1 in omega (arith, is)
      ]
    where
      own : written_mark b.pages page hart ≤ written_mark c.pages page hart
      own =
          elim (took.written page) [
            | inl is ↦ omega (arith, is)
            | inr (is, writes) ↦ let less = (marks_below leg order reach b covered hart h took.found page).1 in omega (arith, is, less)
          ]

  pub noted_still : (s : TakenStep) → IsNoted b.start b.pages s → IsNoted b.start c.pages s
  noted_still s noted page = (
    λ touches. elim ((noted page).0 touches) [
      | inl less ↦ let more = read_grows page s.hart in inl (omega (arith, less, more))
      | inr less ↦ let more = written_grows page s.hart in inr (omega (arith, less, more))
    ],
    λ writes. let less = (noted page).1 writes in let more = written_grows page s.hart in omega (arith, less, more),
  )

  pub noted_next : IsNoted b.start c.pages (step_next b hart h inputs)
  noted_next page = (
    λ touches. elim (took.touches page touches) [
      | inl is ↦ let less : h.count < read_mark c.pages page hart = omega (arith, is) in inl less
      | inr is ↦ let less : h.count < written_mark c.pages page hart = omega (arith, is) in inr less
    ],
    λ writes.
        let is = took.writes page (lifted_from (length b.start.pages) (effect_in b h inputs) page writes) in
        let less : h.count < written_mark c.pages page hart = omega (arith, is) in
        less,
  )

  -- ---- marks are those of steps

  pub read_marks_next : (page g : ℕ) → (read_mark c.pages page g ≡ 0) ⊎
      IsMarkOf b.start (steps_in leg b.start order ++ step_next b hart h inputs ∷ []) (λ s. Contains s.effect.touched page) g (read_mark c.pages page g)
  read_marks_next page g =
      elim (same_or_not hart g) [
        | inl same ↦ subst Marked same own
        | inr ne ↦
            still b.start (steps_in leg b.start order) (step_next b hart h inputs) (λ s. Contains s.effect.touched page) g (read_mark b.pages page g)
            (read_mark c.pages page g) (took.others page g (λ e. ne (sym e))).0 (covered.read_marks page g)
      ]
    where
      Marked : ℕ → Type 0
      Marked k =
          (read_mark c.pages page k ≡ 0) ⊎
          IsMarkOf b.start (steps_in leg b.start order ++ step_next b hart h inputs ∷ []) (λ s. Contains s.effect.touched page) k (read_mark c.pages page k)

      own : Marked hart
      own =
          elim (took.read page) [
            | inl same ↦
                still b.start (steps_in leg b.start order) (step_next b hart h inputs) (λ s. Contains s.effect.touched page) hart
                (read_mark b.pages page hart) (read_mark c.pages page hart) same (covered.read_marks page hart)
            | inr (is, touches) ↦
                inr (step_next b hart h inputs, Contains-push (steps_in leg b.start order) (step_next b hart h inputs), refl, sym is, touches)
          ]

  pub written_marks_next : (page g : ℕ) → (written_mark c.pages page g ≡ 0) ⊎
      IsMarkOf b.start (steps_in leg b.start order ++ step_next b hart h inputs ∷ []) (λ s. Writes s.effect page) g (written_mark c.pages page g)
  written_marks_next page g =
      elim (same_or_not hart g) [
        | inl same ↦ subst Marked same own
        | inr ne ↦
            still b.start (steps_in leg b.start order) (step_next b hart h inputs) (λ s. Writes s.effect page) g (written_mark b.pages page g)
            (written_mark c.pages page g) (took.others page g (λ e. ne (sym e))).1 (covered.written_marks page g)
      ]
    where
      Marked : ℕ → Type 0
      Marked k =
          (written_mark c.pages page k ≡ 0) ⊎
          IsMarkOf b.start (steps_in leg b.start order ++ step_next b hart h inputs ∷ []) (λ s. Writes s.effect page) k (written_mark c.pages page k)

      own : Marked hart
      own =
          elim (took.written page) [
            | inl same ↦
                still b.start (steps_in leg b.start order) (step_next b hart h inputs) (λ s. Writes s.effect page) hart
                (written_mark b.pages page hart) (written_mark c.pages page hart) same (covered.written_marks page hart)
            | inr (is, writes) ↦
                inr (
                  step_next b hart h inputs,
                  Contains-push (steps_in leg b.start order) (step_next b hart h inputs),
                  refl,
                  sym is,
                  lifted_to (length b.start.pages) (effect_in b h inputs) page writes,
                )
          ]
