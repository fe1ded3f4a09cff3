-- The bells of steps, and of runs.
use Rattle.std.proofs.Common.{◌≡◌, ◌≢◌, ◌⊎◌, inl, inr, ℕ, zero, suc, ◌+◌, ◌<◌, ◌≤◌, ◌&&◌, Bool, true, false, true≢false, List, [], ◌∷◌, length, length-set}
use Rattle.std.proofs.Common.{slice_index, slice_set, get_or-set_same, get_or-set_other, Option, None, Some, Contains, refl, ap, sym, subst, ◌∙◌, arith}
use Rattle.std.proofs.Common.{nat_le, nat_lt, le-ltb, slice_get, if◌then◌else◌}
use Rattle.std.specs.List.{count_by}
use Rattle.std.proofs.lemmas.Bool.{cases_lt}
use Rattle.std.proofs.lemmas.List.{get_or_past}
use Rattle.std.proofs.lemmas.List.Elements.{Contains-append_right}
use Rattle.interleaving.specs.Machine.{Machine, Turn, after, step_of, counts, steps, Runs, run}
use Rattle.interleaving.specs.Stored.{halted_of}
use Rattle.interleaving.proofs.Put.{same_or_not, put_same, put_other, bump_same}
use Rattle.interleaving.proofs.NextStep.{counts_step}
use Rattle.interleaving.proofs.Cuts.{here_or_later, here}
use Rattle.interleaving.proofs.Runs.{counts_grow}
use Rattle.input_log.specs.declared.Input.{Input}
use Rattle.rv32_hart.specs.Ram.{Ram}
use Rattle.rv32_hart.specs.Hart.{Hart}
use Rattle.rv32_hart.specs.Csrs.{interrupt_of, received_all}
use Rattle.rv32_hart.specs.Access.{in_ram, page_at, unless_interrupted}
use Rattle.rv32_hart.specs.Step.{IsTaken, first_missing, step_wants, effect, effect_on, ram_after}
use Rattle.rv32_hart.specs.Bells.{IsRungOnce, is_bell_from}
use Rattle.rv32_hart.specs.Hardware.{hardware}
use Rattle.rv32_hart.specs.machinery.CountedSteps.{effect_counted}
use Rattle.rv32_hart.proofs.Inputs.{received_apart}
use Rattle.rv32_hart.proofs.Ringing.{hears_bells, effect_rows}
use Rattle.hart_lease.specs.Recorded.{system}
use Rattle.book_modes.specs.Silences.{rung_by, heard_by}
use Rattle.hart_lease.specs.Turns.{turn_on, turns_in_a_row, turns_from}
use Rattle.book_modes.specs.Hearings.{HartStep, Rings}

-- What a hart receives, and what its step leaves.

-- a machine without RAM, in which no step lacks a right
abbrev no_ram : Ram
no_ram = record { contents = []; readable = []; writable = [] }

second : {A : Type 0} (b : Bool) (x y : A) → b ≡ false → (if b then x else y) ≡ y
second b x y e = rw e refl

never : (a b : Bool) → b ≡ false → a && b ≡ false
never true b e = e
never false b e = refl

lacks_nothing : (h : Hart) (cause : Option ℕ) (contents : ℕ → Option (List ℕ)) → first_missing no_ram (step_wants (unless_interrupted cause 0 h) contents) ≡
    None
lacks_nothing h (Some cause) contents = refl
lacks_nothing h None contents =
    ap (λ s. first_missing no_ram (step_wants s contents))
    (second (in_ram 0 h.pc) _ _ (never (nat_le 0x80000000 h.pc) (nat_lt (page_at h.pc) 0) (le-ltb (page_at h.pc) 0 (omega arith))))

there_taken : (inputs : List Input) (h : Hart) → h.halted ≡ false →
    IsTaken inputs h no_ram (effect_on no_ram h inputs).hart (ram_after no_ram (effect_on no_ram h inputs).write)
there_taken inputs h runs = record {
  running = runs;
  granted = lacks_nothing (received_all inputs h) (interrupt_of (received_all inputs h)) _;
  hart = refl;
  pages = refl;
}

-- what is received is heard, whatever RAM there is
same_heard : (pages : ℕ) (inputs : List Input) (h : Hart) (contents : ℕ → Option (List ℕ)) →
    (effect pages h inputs contents).hart.received.heard ≡ (effect_on no_ram h inputs).hart.received.heard
same_heard pages inputs h contents =
    let here = effect_counted pages (received_all inputs h) contents in
    let there = effect_counted 0 (received_all inputs h) (slice_get []) in
    here.heard ∙ sym there.heard

-- a bell more for the target, or none
pub rung_more : (harts : ℕ) (rung after : List ℕ) (target : ℕ) → IsRungOnce harts rung after →
    (slice_index after target ≡ slice_index rung target) ⊎ (slice_index after target ≡ slice_index rung target + 1)
rung_more harts rung after target (inl same) = inl (ap (λ xs. slice_index xs target) same)
rung_more harts rung after target (inr (other, below, is)) =
    elim (same_or_not other target) [
      | inr ne ↦ inl (ap (λ xs. slice_index xs target) is ∙ get_or-set_other rung other target (slice_index rung other + 1) 0 (λ e. ne (sym e)))
      | inl same ↦
          elim (cases_lt other (length rung)) [
            | inl lt ↦
                inr
                (subst (λ n. slice_index after n ≡ slice_index rung n + 1) same
                (ap (λ xs. slice_index xs other) is ∙ get_or-set_same rung other (slice_index rung other + 1) 0 lt))
            | inr past ↦
                inl
                (subst (λ n. slice_index after n ≡ slice_index rung n) same
                (ap (λ xs. slice_index xs other) is ∙
                get_or_past (slice_set rung other (slice_index rung other + 1)) other 0
                (omega (arith, past, length-set rung other (slice_index rung other + 1))) ∙
                sym (get_or_past rung other 0 past)))
          ]
    ]

abbrev pub Now : Type 0
Now = Machine (Option Hart) (Option (List ℕ))

module _ (pages : ℕ) where
  -- A step.

  pub step_rings : (o : Option Hart) (inputs : List Input) (contents : ℕ → Option (List ℕ)) (target : ℕ) → halted_of (hardware pages) o ≡ false →
      rung_by ((system pages).effect o inputs contents).hart target ≤ rung_by o target + 1
  step_rings None inputs contents target runs = absurd (true≢false runs)
  step_rings (Some h) inputs contents target runs =
      let c = effect_counted pages (received_all inputs h) contents in
      let rung : (received_all inputs h).rung ≡ h.rung = ap (λ (k : Hart). k.rung) (received_apart inputs h) in
      let once : IsRungOnce (received_all inputs h).harts h.rung (effect pages h inputs contents).hart.rung =
      subst (λ (xs : List ℕ). IsRungOnce (received_all inputs h).harts xs (effect pages h inputs contents).hart.rung) rung c.rung in
      elim (rung_more _ h.rung _ target once) [ inl same ↦ omega (arith, same) | inr more ↦ omega (arith, more) ]

  step_hears : (o : Option Hart) (inputs : List Input) (contents : ℕ → Option (List ℕ)) (source : ℕ) → halted_of (hardware pages) o ≡ false →
      ((h : Hart) → o ≡ Some h → source < length h.received.heard) →
      heard_by ((system pages).effect o inputs contents).hart source ≡ heard_by o source + count_by (is_bell_from source) inputs
  step_hears None inputs contents source runs there = absurd (true≢false runs)
  step_hears (Some h) inputs contents source runs there =
      ap (λ (xs : List ℕ). slice_index xs source) (same_heard pages inputs h contents) ∙
      hears_bells inputs h no_ram (effect_on no_ram h inputs).hart _ (there_taken inputs h runs) source (there h refl)

  step_rows : (o : Option Hart) (inputs : List Input) (contents : ℕ → Option (List ℕ)) (n : ℕ) → halted_of (hardware pages) o ≡ false →
      ((h : Hart) → o ≡ Some h → n ≤ length h.received.heard) → (k : Hart) → ((system pages).effect o inputs contents).hart ≡ Some k →
      n ≤ length k.received.heard
  step_rows None inputs contents n runs there k is = absurd (true≢false runs)
  step_rows (Some h) inputs contents n runs there k is =
      let same : (effect pages h inputs contents).hart ≡ k = cc in
      let row : length (effect pages h inputs contents).hart.received.heard ≡ length h.received.heard =
      ap length (same_heard pages inputs h contents) ∙ (effect_rows inputs h no_ram).heard in
      let was : n ≤ length h.received.heard = there h refl in
      subst (λ (k : Hart). n ≤ length k.received.heard) same (omega (arith, row, was))

  -- A run.

  -- each hart counts the bells of the first n
  abbrev pub HasRows : ℕ → Now → Type 0
  HasRows n m = (hart : ℕ) (h : Hart) → m.harts hart ≡ Some h → n ≤ length h.received.heard

  rows_after : (n : ℕ) (m : Now) (t : Turn (List Input)) → (system pages).halted (m.harts t.hart) ≡ false → HasRows n m →
      HasRows n (after m (step_of (system pages) m t))
  rows_after n m t runs rows hart h is =
      elim (same_or_not t.hart hart) [
        | inl same ↦
            step_rows (m.harts t.hart) t.input m.pages n runs (rows t.hart) h
            (sym (put_same m.harts t.hart hart (step_of (system pages) m t).effect.hart same) ∙ is)
        | inr ne ↦ rows hart h (sym (put_other m.harts t.hart hart (step_of (system pages) m t).effect.hart ne) ∙ is)
      ]

  pub rows_run : (n : ℕ) (m : Now) (turns : List (Turn (List Input))) → Runs (system pages) m turns → HasRows n m → HasRows n (run (system pages) m turns)
  rows_run n m [] runs rows = rows
  rows_run n m (t ∷ turns) runs rows = rows_run n (after m (step_of (system pages) m t)) turns runs.1 (rows_after n m t runs.0 rows)

  -- a hart that hears nothing
  heard_row : (m : Now) (hart n source : ℕ) → Runs (system pages) m (turns_in_a_row hart n) → HasRows (source + 1) m →
      heard_by ((run (system pages) m (turns_in_a_row hart n)).harts hart) source ≡ heard_by (m.harts hart) source
  heard_row m hart zero source runs rows = refl
  heard_row m hart (suc n) source runs rows =
      heard_row (after m s) hart n source runs.1 (rows_after (source + 1) m (turn_on hart []) runs.0 rows) ∙
      (ap (λ o. heard_by o source) (put_same m.harts hart hart s.effect.hart refl) ∙
      (step_hears (m.harts hart) [] m.pages source runs.0 (λ h is. let le = rows hart h is in omega (arith, le)) ∙ omega arith))
    where
      s : HartStep
      s = step_of (system pages) m (turn_on hart [])

  -- and one that hears its inputs at its first step
  pub heard_from : (m : Now) (hart n source : ℕ) (inputs : List Input) → Runs (system pages) m (turns_from inputs hart (suc n)) → HasRows (source + 1) m →
      heard_by ((run (system pages) m (turns_from inputs hart (suc n))).harts hart) source ≡ heard_by (m.harts hart) source + count_by (is_bell_from source)
      inputs
  heard_from m hart n source inputs runs rows =
      heard_row (after m s) hart n source runs.1 (rows_after (source + 1) m (turn_on hart inputs) runs.0 rows) ∙
      (ap (λ o. heard_by o source) (put_same m.harts hart hart s.effect.hart refl) ∙
      step_hears (m.harts hart) inputs m.pages source runs.0 (λ h is. let le = rows hart h is in omega (arith, le)))
    where
      s : HartStep
      s = step_of (system pages) m (turn_on hart inputs)

  others_row : (m : Now) (hart n other : ℕ) → hart ≢ other → (run (system pages) m (turns_in_a_row hart n)).harts other ≡ m.harts other
  others_row m hart zero other ne = refl
  others_row m hart (suc n) other ne =
      others_row (after m (step_of (system pages) m (turn_on hart []))) hart n other ne ∙
      put_other m.harts hart other (step_of (system pages) m (turn_on hart [])).effect.hart ne

  -- other harts stay as they were
  pub others_from : (m : Now) (hart n other : ℕ) (inputs : List Input) → hart ≢ other →
      (run (system pages) m (turns_from inputs hart n)).harts other ≡ m.harts other
  others_from m hart zero other inputs ne = refl
  others_from m hart (suc n) other inputs ne =
      others_row (after m (step_of (system pages) m (turn_on hart inputs))) hart n other ne ∙
      put_other m.harts hart other (step_of (system pages) m (turn_on hart inputs)).effect.hart ne

  -- each later step is silent
  pub silent_row : (m : Now) (hart n : ℕ) (t : HartStep) → Contains (steps (system pages) m (turns_in_a_row hart n)) t → t.input ≡ []
  silent_row m hart zero t (k, below, is) = absurd (omega (arith, below))
  silent_row m hart (suc n) t i =
      let s : HartStep = step_of (system pages) m (turn_on hart []) in
      elim (here_or_later s (steps (system pages) (after m s) (turns_in_a_row hart n)) t i) [
        | inl is ↦ ap (λ (x : HartStep). x.input) (sym is)
        | inr later ↦ silent_row (after m s) hart n t later
      ]

  first_below : (m : Now) (t : Turn (List Input)) (turns : List (Turn (List Input))) → Runs (system pages) m (t ∷ turns) →
      counts (system pages) m t.hart < counts (system pages) (run (system pages) m (t ∷ turns)) t.hart
  first_below m t turns runs =
      let one : counts (system pages) (after m (step_of (system pages) m t)) t.hart ≡ counts (system pages) m t.hart + 1 =
      ap (λ (c : ℕ → ℕ). c t.hart) (counts_step (system pages) m t runs.0) ∙ bump_same (counts (system pages) m) t.hart in
      let more = counts_grow (system pages) (after m (step_of (system pages) m t)) turns runs.1 t.hart in
      omega (arith, one, more)

  -- a step stands below the counts that the run leaves
  pub step_below : (m : Now) (turns : List (Turn (List Input))) (s : HartStep) → Runs (system pages) m turns → Contains (steps (system pages) m turns) s →
      (system pages).count s.found < counts (system pages) (run (system pages) m turns) s.hart
  step_below m [] s runs (k, below, is) = absurd (omega (arith, below))
  step_below m (t ∷ turns) s runs i =
      elim (here_or_later (step_of (system pages) m t) (steps (system pages) (after m (step_of (system pages) m t)) turns) s i) [
        | inl is ↦
            subst (λ (s : HartStep). (system pages).count s.found < counts (system pages) (run (system pages) m (t ∷ turns)) s.hart) is
            (first_below m t turns runs)
        | inr later ↦ step_below (after m (step_of (system pages) m t)) turns s runs.1 later
      ]

  -- a bell that the run rang was rung at one of its steps
  pub ringing_step : (m : Now) (turns : List (Turn (List Input))) (source target k : ℕ) → Runs (system pages) m turns → rung_by (m.harts source) target ≤ k →
      k < rung_by ((run (system pages) m turns).harts source) target →
      (s : HartStep) × Contains (steps (system pages) m turns) s × Rings s source target k
  ringing_step m [] source target k runs from below = absurd (omega (arith, from, below))
  ringing_step m (t ∷ turns) source target k runs from below =
      elim (cases_lt k (rung_by ((after m s).harts source) target)) [
        | inl lt ↦ (s, here s (steps (system pages) (after m s) turns), first lt)
        | inr le ↦
            let (r, is_in, rings) = ringing_step (after m s) turns source target k runs.1 le below in
            (r, Contains-append_right (s ∷ []) (steps (system pages) (after m s) turns) r is_in, rings)
      ]
    where
      s : HartStep
      s = step_of (system pages) m t

      one : rung_by s.effect.hart target ≤ rung_by (m.harts t.hart) target + 1
      one = step_rings (m.harts t.hart) t.input m.pages target runs.0

      first : k < rung_by ((after m s).harts source) target → Rings s source target k
      first lt =
          elim (same_or_not t.hart source) [
            | inl same ↦
                let now : rung_by ((after m s).harts source) target ≡ rung_by s.effect.hart target =
                ap (λ o. rung_by o target) (put_same m.harts t.hart source s.effect.hart same) in
                let was : rung_by (m.harts t.hart) target ≡ rung_by (m.harts source) target = ap (λ h. rung_by (m.harts h) target) same in
                record { own = same; before = omega (arith, now, was, one, from, lt); after = omega (arith, now, was, one, from, lt) }
            | inr ne ↦
                let stays : rung_by ((after m s).harts source) target ≡ rung_by (m.harts source) target =
                ap (λ o. rung_by o target) (put_other m.harts t.hart source s.effect.hart ne) in
                absurd (omega (arith, stays, from, lt))
          ]
