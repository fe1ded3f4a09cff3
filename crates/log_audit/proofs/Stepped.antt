-- A step that asked for all that it needs, and one that clashes.
use Rattle.std.proofs.Common.{◌≡◌, ◌≢◌, ◌⊎◌, inl, inr, ℕ, ◌+◌, ◌<◌, ◌≤◌, max, false, List, slice_get, slice_set, slice_index, Some, None}
use Rattle.std.proofs.Common.{Contains, refl, ap, sym, subst, ◌∙◌, arith}
use Rattle.std.proofs.lemmas.Bool.{cases_lt}
use Rattle.interleaving.specs.Machine.{Effect, Writes}
use Rattle.interleaving.specs.Stored.{written_in}
use Rattle.ft_types.specs.declared.names.Want.{Want}
use Rattle.ft_types.specs.declared.names.Want.TheVariants.{Read, Write}
use Rattle.ft_types.specs.declared.names.TheConstants.{HART_LIMIT}
use Rattle.input_log.specs.declared.Input.{Input}
use Rattle.rv32_hart.specs.Hart.{Hart}
use Rattle.rv32_hart.specs.Ram.{Ram}
use Rattle.rv32_hart.specs.Step.{IsMissing, effect_on, missing_on}
use Rattle.rv32_hart.proofs.Rights.{touched_right, written_right}
use Rattle.log_audit.specs.declared.marks.Uses.{Uses}
use Rattle.log_audit.specs.machinery.Marks.{uses_at, used_by, read_mark, written_mark, IsMarkedBelow, IsClear, StandsAgainst}
use Rattle.log_audit.specs.machinery.Covered.{HartsView, TakesStep, Clashes}
use Rattle.log_audit.proofs.Asking.{IsAsking, step_on}
use Rattle.log_audit.proofs.Wanting.{missing_used}

either_max : (a b n : ℕ) → max a b ≡ n → (a ≡ n) ⊎ (b ≡ n)
either_max a b n is = elim (cases_lt a b) [ inl less ↦ inr (omega (arith, less, is)) | inr le ↦ inl (omega (arith, le, is)) ]

module _ (hart : ℕ) (h : Hart) (inputs : List Input) (before : List ℕ) (b : HartsView) (found : slice_get b.harts hart ≡ Some h)
    (below : IsMarkedBelow b.pages hart (h.count + 1)) (r : Ram) (now : List Uses)
    (asking : IsAsking hart h inputs before b.pages.contents b.pages.uses r now) where
  -- on these rights the step does what it does on the pages
  same_step : effect_on r h inputs ≡ step_on b.pages.contents h inputs
  same_step = ap (λ (c : List (List ℕ)). step_on c h inputs) asking.same

  module _ (granted : missing_on r h inputs ≡ None) where
    touched : (page : ℕ) → Contains (step_on b.pages.contents h inputs).touched page →
        (slice_index (uses_at now page).read hart ≡ h.count + 1) ⊎ (slice_index (uses_at now page).written hart ≡ h.count + 1)
    touched page touches =
        elim (touched_right h inputs r page granted (subst (λ (e : Effect Hart (List ℕ)). Contains e.touched page) (sym same_step) touches)) [
          | inl read ↦ asking.may_read_marked page read
          | inr write ↦ inr (asking.may_write_marked page write)
        ]

    written : (page : ℕ) → Writes (step_on b.pages.contents h inputs) page → slice_index (uses_at now page).written hart ≡ h.count + 1
    written page writes =
        asking.may_write_marked page
        (written_right h inputs r page granted (subst (λ (e : Effect Hart (List ℕ)). Writes e page) (sym same_step) writes))

    clear_to_read : (page : ℕ) → slice_index (uses_at now page).read hart ≡ h.count + 1 → IsClear b.pages.uses page hart Read before
    clear_to_read page is =
        elim (asking.read page) [
          | inl same ↦ let lt = (below page).0 in absurd (omega (arith, lt, same, is))
          | inr new ↦ new.2
        ]

    clear_to_write : (page : ℕ) → slice_index (uses_at now page).written hart ≡ h.count + 1 → IsClear b.pages.uses page hart Write before
    clear_to_write page is =
        elim (asking.written page) [
          | inl same ↦ let lt = (below page).1 in absurd (omega (arith, lt, same, is))
          | inr new ↦ new.2
        ]

    clear : (page other : ℕ) → Contains (step_on b.pages.contents h inputs).touched page → other < HART_LIMIT → other ≢ hart →
        written_mark b.pages page other ≤ slice_index before other
    clear page other touches lt ne =
        elim (touched page touches) [
          | inl read ↦ clear_to_read page read other lt ne
          | inr write ↦ let le = clear_to_write page write other lt ne in omega (arith, le)
        ]

    pub step_taken : (c : HartsView) → h.halted ≡ false → c.start ≡ b.start → c.befores ≡ b.befores →
        c.harts ≡ slice_set b.harts hart (effect_on r h inputs).hart → c.pages.contents ≡ written_in r.contents (effect_on r h inputs).write →
        c.pages.uses ≡ now → TakesStep hart h inputs before b c
    step_taken c running start befores harts contents uses =
        record {
          found = found;
          running = running;
          harts = harts ∙ ap (λ (e : Effect Hart (List ℕ)). slice_set b.harts hart e.hart) same_step;
          contents = contents ∙ ap (λ (l : List (List ℕ)). written_in l (effect_on r h inputs).write) asking.same
              ∙ ap (λ (e : Effect Hart (List ℕ)). written_in b.pages.contents e.write) same_step;
          start = start;
          befores = befores;
          others = λ page other ne.
              let (read, write) = asking.others page other ne in (
                ap (λ (u : List Uses). slice_index (uses_at u page).read other) uses ∙ read,
                ap (λ (u : List Uses). slice_index (uses_at u page).written other) uses ∙ write,
              );
          read = λ page.
              let is : read_mark c.pages page hart ≡ slice_index (uses_at now page).read hart =
              ap (λ (u : List Uses). slice_index (uses_at u page).read hart) uses in
              elim (asking.read page) [ inl same ↦ inl (is ∙ same) | inr new ↦ inr (is ∙ new.0, new.1) ];
          written = λ page.
              let is : written_mark c.pages page hart ≡ slice_index (uses_at now page).written hart =
              ap (λ (u : List Uses). slice_index (uses_at u page).written hart) uses in
              elim (asking.written page) [ inl same ↦ inl (is ∙ same) | inr new ↦ inr (is ∙ new.0, new.1) ];
          touches = λ page touches.
              elim (touched page touches) [
                | inl read ↦ inl (ap (λ (u : List Uses). slice_index (uses_at u page).read hart) uses ∙ read)
                | inr write ↦ inr (ap (λ (u : List Uses). slice_index (uses_at u page).written hart) uses ∙ write)
              ];
          writes = λ page writes. ap (λ (u : List Uses). slice_index (uses_at u page).written hart) uses ∙ written page writes;
          clear = clear;
          clear_to_write = λ page other writes lt ne.
              let le = clear_to_write page (written page writes) other lt ne in
              omega (arith, le);
        }

  -- what the step lacks, it uses
  pub lacked_touches : (page : ℕ) (want : Want) → IsMissing inputs h r (page, want) → Contains (step_on b.pages.contents h inputs).touched page
  lacked_touches page want m = subst (λ (e : Effect Hart (List ℕ)). Contains e.touched page) same_step (missing_used inputs h r page want m).0

  pub lacked_writes : (page : ℕ) → IsMissing inputs h r (page, Write) → (bytes : List ℕ) → slice_get r.contents page ≡ Some bytes →
      Writes (step_on b.pages.contents h inputs) page
  lacked_writes page m bytes there =
      subst (λ (e : Effect Hart (List ℕ)). Writes e page) same_step ((missing_used inputs h r page Write m).1 refl bytes there)

  last_of : (page : ℕ) (want : Want) (other : ℕ × ℕ) → IsMissing inputs h r (page, want) → (bytes : List ℕ) → slice_get r.contents page ≡ Some bytes →
      other.0 ≢ hart → used_by (uses_at now page) want other.0 ≡ other.1 + 1 →
      (written_mark b.pages page other.0 ≡ other.1 + 1) ⊎
      ((read_mark b.pages page other.0 ≡ other.1 + 1) × Writes (step_on b.pages.contents h inputs) page)
  last_of page Read other m bytes there ne is = let same = (asking.others page other.0 ne).1 in inl (sym same ∙ is)
  last_of page Write other m bytes there ne is =
      let (read, write) = asking.others page other.0 ne in
      elim (either_max _ _ _ is) [ inl w ↦ inl (sym write ∙ w) | inr r ↦ inr (sym read ∙ r, lacked_writes page m bytes there) ]

  pub step_clashes : (page : ℕ) (want : Want) (other : ℕ × ℕ) → IsMissing inputs h r (page, want) → (bytes : List ℕ) → slice_get r.contents page ≡ Some bytes →
      StandsAgainst now page hart want before other → Clashes hart h inputs before b page other
  step_clashes page want other m bytes there against =
      record {
        found = found;
        running = m.running;
        touches = lacked_touches page want m;
        on_other = against.on_other;
        there = against.there;
        unordered = against.unordered;
        last = last_of page want other m bytes there against.on_other against.last;
      }
