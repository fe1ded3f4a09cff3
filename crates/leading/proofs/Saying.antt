-- What a machine has put out stays, and what it puts out more stands behind that, in the order of its steps.
use Rattle.std.proofs.Common.{◌≡◌, ◌≢◌, inl, inr, ℕ, ◌+◌, ◌<◌, ◌≤◌, Bool, true, false, List, [], ◌∷◌, ◌++◌, append_assoc, append-nil, Option, Some, None, if◌then◌else◌, slice_get, refl, sym, ap, subst, ◌∙◌, arith}
use Rattle.std.proofs.lemmas.Option.{slice_get_within}
use Rattle.interleaving.specs.Lists.{Each, EachPair}
use Rattle.interleaving.specs.Machine.{Turn}
use Rattle.interleaving.specs.Stored.{run_from, goes, stored_after}
use Rattle.interleaving.proofs.Lists.{get_set_same, get_set_other}
use Rattle.interleaving.proofs.Put.{same_or_not}
use Rattle.input_log.specs.declared.Input.{Input}
use Rattle.rv32_hart.specs.Hart.{Hart}
use Rattle.rv32_hart.specs.Hardware.{hardware}
use Rattle.rv32_hart.specs.Step.{effect}
use Rattle.rv32_hart.specs.machinery.Local.{step_counted}
use Rattle.guest_image.specs.Machine.{MachineState}
use Rattle.hart_lease.specs.Runs.{counts_of, steps_taken}
use Rattle.primary.specs.Outputs.{said_by, said_at}
use Rattle.page_book.proofs.Outputs.{AddsOne, effect_adds}
use Rattle.leading.specs.Leaders.{IsTidy, AreTidy}

-- ---- a hart

-- the second state of a hart is the first one's, or a later one
pub record IsLater (x y : Option Hart) : Type 0 where
  pub counts : steps_taken x ≤ steps_taken y
  pub more : (more : List (ℕ × ℕ)) × (said_by y ≡ said_by x ++ more)
  pub tidy : IsTidy (steps_taken x) (said_by x) → IsTidy (steps_taken y) (said_by y)

pub not_later : (x : Option Hart) → IsLater x x
not_later x = record { counts = omega arith; more = ([], sym (append-nil (said_by x))); tidy = λ t. t }

pub later_on : (x y z : Option Hart) → IsLater x y → IsLater y z → IsLater x z
later_on x y z p q =
    let first = p.counts in
    let second = q.counts in
    record {
      counts = omega (arith, first, second);
      more = (
        p.more.0 ++ q.more.0,
        q.more.1 ∙ ap (λ (os : List (ℕ × ℕ)). os ++ q.more.0) p.more.1 ∙ append_assoc (said_by x) p.more.0 q.more.0,
      );
      tidy = λ t. q.tidy (p.tidy t);
    }

below_on : (n : ℕ) (said : List (ℕ × ℕ)) → Each (λ a. a.0 < n) said → Each (λ a. a.0 < n + 1) said
below_on n [] all = tt
below_on n (a ∷ said) (first, rest) = (omega (arith, first), below_on n said rest)

each_last : (P : ℕ × ℕ → Type 0) (said : List (ℕ × ℕ)) (o : ℕ × ℕ) → Each P said → P o → Each P (said ++ o ∷ [])
each_last P [] o all last = (last, tt)
each_last P (a ∷ said) o (first, rest) last = (first, each_last P said o rest last)

rising_last : (n word : ℕ) (said : List (ℕ × ℕ)) → EachPair (λ a b. a.0 < b.0) said → Each (λ a. a.0 < n) said →
    EachPair (λ a b. a.0 < b.0) (said ++ (n, word) ∷ [])
rising_last n word [] rising below = (tt, tt)
rising_last n word (a ∷ said) (first, rest) (low, lower) = (each_last (λ b. a.0 < b.0) said (n, word) first low, rising_last n word said rest lower)

-- one step
one_step : (h k : Hart) → k.count ≡ h.count + 1 → AddsOne h k → IsLater (Some h) (Some k)
one_step h k count (inl same) =
    record {
      counts = omega (arith, count);
      more = ([], same ∙ sym (append-nil h.outputs));
      tidy = λ t. subst (λ n. IsTidy n k.outputs) (sym count)
          (subst (IsTidy (h.count + 1)) (sym same) (record { rising = t.rising; below = below_on h.count h.outputs t.below }));
    }
one_step h k count (inr (word, is)) =
    record {
      counts = omega (arith, count);
      more = ((h.count, word) ∷ [], is);
      tidy = λ t. subst (λ n. IsTidy n k.outputs) (sym count)
          (subst (IsTidy (h.count + 1)) (sym is)
          (record {
            rising = rising_last h.count word h.outputs t.rising t.below;
            below = each_last (λ a. a.0 < h.count + 1) h.outputs (h.count, word) (below_on h.count h.outputs t.below) (omega arith);
          }));
    }

-- ---- a machine

abbrev pub AreLater : MachineState → MachineState → Type 0
AreLater m n = (hart : ℕ) → IsLater (slice_get m.harts hart) (slice_get n.harts hart)

pub all_later : (m n o : MachineState) → AreLater m n → AreLater n o → AreLater m o
all_later m n o p q hart = later_on (slice_get m.harts hart) (slice_get n.harts hart) (slice_get o.harts hart) (p hart) (q hart)

none_led : (pages : ℕ) (turns : List (Turn (List Input))) (n : MachineState) → run_from (hardware pages) None turns ≡ Some n → ⊥
none_led pages turns n led = let no : None ≡ Some n = led in cc

-- a hart's turn
turn_later : (pages : ℕ) (m : MachineState) (t : Turn (List Input)) (h : Hart) → slice_get m.harts t.hart ≡ Some h →
    AreLater m (stored_after m t.hart (effect pages h t.input (slice_get m.pages)))
turn_later pages m t h there hart =
    let k = (effect pages h t.input (slice_get m.pages)).hart in
    elim (same_or_not t.hart hart) [
      | inl same ↦
          subst (λ n. IsLater (slice_get m.harts n) (slice_get (stored_after m t.hart (effect pages h t.input (slice_get m.pages))).harts n)) same
          (subst (λ x. IsLater x (slice_get (stored_after m t.hart (effect pages h t.input (slice_get m.pages))).harts t.hart)) (sym there)
          (subst (IsLater (Some h)) (sym (get_set_same m.harts t.hart k (slice_get_within m.harts t.hart h there)))
          (one_step h k (step_counted pages h t.input (slice_get m.pages)) (effect_adds pages h t.input (slice_get m.pages)))))
      | inr other ↦
          subst (IsLater (slice_get m.harts hart)) (sym (get_set_other m.harts t.hart hart k other)) (not_later (slice_get m.harts hart))
    ]

pub run_later : (pages : ℕ) (m n : MachineState) (turns : List (Turn (List Input))) → run_from (hardware pages) (Some m) turns ≡ Some n → AreLater m n
run_later pages m n [] led = λ hart.
    let same : m ≡ n = cc in
    subst (λ (x : MachineState). IsLater (slice_get m.harts hart) (slice_get x.harts hart)) same (not_later (slice_get m.harts hart))
run_later pages m n (t ∷ turns) led = of (λ next rest. run_later pages next n turns rest) (slice_get m.harts t.hart) refl led
  where
    by : ((next : MachineState) → run_from (hardware pages) (Some next) turns ≡ Some n → AreLater next n) → (h : Hart) → slice_get m.harts t.hart ≡ Some h → (b : Bool) → h.halted ≡ b →
        run_from (hardware pages) (if b then None else Some (stored_after m t.hart (effect pages h t.input (slice_get m.pages)))) turns ≡ Some n →
        AreLater m n
    by rest h there true halted led = absurd (none_led pages turns n led)
    by rest h there false halted led =
        let next = stored_after m t.hart (effect pages h t.input (slice_get m.pages)) in
        all_later m next n (turn_later pages m t h there) (rest next led)

    of : ((next : MachineState) → run_from (hardware pages) (Some next) turns ≡ Some n → AreLater next n) → (x : Option Hart) → slice_get m.harts t.hart ≡ x → run_from (hardware pages) (goes (hardware pages) m t x) turns ≡ Some n → AreLater m n
    of rest None there led = absurd (none_led pages turns n led)
    of rest (Some h) there led = by rest h there h.halted refl led

pub still_tidy : (m n : MachineState) → AreLater m n → AreTidy m → AreTidy n
still_tidy m n later tidy hart = (later hart).tidy (tidy hart)
