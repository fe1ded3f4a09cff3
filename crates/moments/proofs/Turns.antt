-- Steps and turns of the line, from what the code has.
use Rattle.std.proofs.Common.{◌≡◌, ◌≢◌, inl, inr, ℕ, zero, suc, ◌+◌, ◌-◌, ◌<◌, ◌≤◌, List, [], ◌∷◌, length, replicate, slice_get, slice_index, slice_set, Option, Some, refl, ap, sym, subst, ◌∙◌, arith, false}
use Rattle.ft_types.specs.Counts.{count_at}
use Rattle.ft_types.specs.declared.names.TheConstants.{HART_ROW}
use Rattle.interleaving.specs.Log.{bump}
use Rattle.interleaving.specs.Stored.{run_from, goes, halted_of, stored_after}
use Rattle.interleaving.proofs.Put.{same_or_not, bump_same, bump_other}
use Rattle.input_log.specs.declared.Input.{Input}
use Rattle.rv32_hart.specs.Hart.{Hart}
use Rattle.rv32_hart.specs.Hardware.{hardware}
use Rattle.rv32_hart.specs.Step.{effect}
use Rattle.guest_image.specs.Machine.{MachineState}
use Rattle.hart_lease.specs.Runs.{counts_of, steps_taken}
use Rattle.hart_lease.proofs.journals.Sizes.{as_large}
use Rattle.log_audit.proofs.StepAnswers.{there_below}
use Rattle.hart_replay.specs.declared.plans.PlannedLeg.{PlannedLeg}
use Rattle.hart_replay.specs.Plans.{log_of}
use Rattle.log_audit.specs.machinery.Covered.{IsQuietTo}
use Rattle.hart_replay.specs.Leading.{AreAtEnds}
use Rattle.least_cuts.proofs.Legs.{one_leg}
use Rattle.plan_lines.specs.Line.{IsNext, Steps, turn_in, Standing, Leads}
use Rattle.plan_lines.specs.Line.{TurnsOn}
use Rattle.plan_lines.specs.machinery.Kept.{AreQuiet, QuietAt, IsTurned}
use Rattle.plan_lines.proofs.Standings.{counts_step}

-- no hart is known to be quiet
zeros : (n hart : ℕ) → slice_index (replicate n 0) hart ≡ 0
zeros zero hart = refl
zeros (suc n) zero = refl
zeros (suc n) (suc hart) = zeros n hart

pub quiet_at_none : (leg : PlannedLeg) (m : MachineState) → AreQuiet leg m (replicate HART_ROW 0)
quiet_at_none leg m = λ hart lt.
    let none = zeros HART_ROW hart in
    record {
      within = omega (arith, none);
      edges = λ e has own from. omega (arith, none);
      inputs = λ n from below. absurd (omega (arith, none, below));
    }

pub quiet_none : (legs : List PlannedLeg) (t : Standing) (stops : List ℕ) → stops ≡ replicate HART_ROW 0 → QuietAt legs t stops
quiet_none legs t stops is = subst (λ (s : List ℕ). QuietAt legs t s) (sym is) (λ leg at. quiet_at_none leg t.machine)

-- the line is led on past a leg that was led to its end
pub turn_more : (legs : List PlannedLeg) (first t u : Standing) (leg : PlannedLeg) → slice_get legs t.place ≡ Some leg → AreAtEnds t.machine leg.ends →
    u.place ≡ t.place + 1 → u.moment ≡ t.moment → u.machine ≡ t.machine → ((s : Standing) → Leads legs s first → Leads legs s t) →
    (s : Standing) → Leads legs s first → Leads legs s u
turn_more legs first t u leg at ends place moment machine so_far s leads =
    subst (λ (x : Standing). Leads legs s x) (λ i. record { place = sym place i; moment = sym moment i; machine = sym machine i })
    (TurnsOn leg (so_far s leads) at ends)

-- a leg that was not led to its end, and the last one
pub not_led : (legs : List PlannedLeg) (t : Standing) (leg : PlannedLeg) → slice_get legs t.place ≡ Some leg → (AreAtEnds t.machine leg.ends → ⊥) →
    IsTurned legs t
not_led legs t leg at none other found ends =
    absurd (none (subst (λ (l : PlannedLeg). AreAtEnds t.machine l.ends) (sym (one_leg legs t.place leg other at found)) ends))

-- a hart that comes next runs, and is below its end
pub next_runs : (leg : PlannedLeg) (m : MachineState) (hart limit : ℕ) → IsNext leg m hart → count_at leg.ends hart < limit → (h : Hart) →
    slice_get m.harts hart ≡ Some h → (h.halted ≡ false) × (h.count < limit - 1)
next_runs leg m hart limit next below h found =
    let runs : h.halted ≡ false = sym (ap (λ (o : Option Hart). halted_of (hardware (length m.pages)) o) found) ∙ next.may.runs in
    let count : counts_of m hart ≡ h.count = ap steps_taken found in
    let lt = next.may.below in
    (runs, omega (arith, count, lt, below))

-- the step that was taken, in the line's words
pub steps_made : (leg : PlannedLeg) (m : MachineState) (hart : ℕ) (h : Hart) (inputs : List Input) → slice_get m.harts hart ≡ Some h → h.halted ≡ false →
    inputs ≡ (log_of leg).inputs hart (counts_of m hart) →
    Steps leg m hart (stored_after m hart (effect (length m.pages) h inputs (slice_get m.pages)))
steps_made leg m hart h inputs found runs given =
    ap (λ (o : Option Hart). run_from (hardware (length m.pages)) (goes (hardware (length m.pages)) m (turn_in leg m hart) o) []) found
    ∙ went
  where
    went : run_from (hardware (length m.pages)) (goes (hardware (length m.pages)) m (turn_in leg m hart) (Some h)) [] ≡
        Some (stored_after m hart (effect (length m.pages) h inputs (slice_get m.pages)))
    went = rw (runs, given) refl

-- so it was, where a step tells of the hart that was found
pub steps_taken_so : (leg : PlannedLeg) (m n : MachineState) (hart : ℕ) (inputs : List Input) → hart < length m.harts → IsNext leg m hart →
    inputs ≡ (log_of leg).inputs hart (counts_of m hart) →
    ((h : Hart) → slice_get m.harts hart ≡ Some h → n ≡ stored_after m hart (effect (length m.pages) h inputs (slice_get m.pages))) → Steps leg m hart n
steps_taken_so leg m n hart inputs lt next given taken =
    let found = there_below m.harts hart lt in
    let runs : found.0.halted ≡ false = sym (ap (λ (o : Option Hart). halted_of (hardware (length m.pages)) o) found.1) ∙ next.may.runs in
    subst (λ (x : MachineState). Steps leg m hart x) (sym (taken found.0 found.1)) (steps_made leg m hart found.0 inputs found.1 runs given)

-- a hart has no inputs at a count below its stop
pub no_inputs : (leg : PlannedLeg) (m : MachineState) (hart : ℕ) (h : Hart) (count stop : ℕ) → slice_get m.harts hart ≡ Some h → count ≡ h.count →
    IsQuietTo leg hart (counts_of m hart) stop → count < stop → [] ≡ (log_of leg).inputs hart (counts_of m hart)
no_inputs leg m hart h count stop found is quiet lt =
    let own : counts_of m hart ≡ h.count = ap steps_taken found in
    sym (quiet.inputs (counts_of m hart) (omega arith) (omega (arith, own, is, lt)))

-- a step leaves as many harts
pub as_many : (leg : PlannedLeg) (m n : MachineState) (hart : ℕ) → Steps leg m hart n → length n.harts ≡ length m.harts
as_many leg m n hart steps = (as_large m n (turn_in leg m hart ∷ []) steps).harts

-- ---- harts stay quiet

module _ (leg : PlannedLeg) (m n : MachineState) (hart : ℕ) (steps : Steps leg m hart n) (large : length n.harts ≡ length m.harts) where
  counts : counts_of n ≡ bump (counts_of m) hart
  counts = counts_step leg m n hart steps

  grown : (g : ℕ) → counts_of m g ≤ counts_of n g
  grown g =
      let is : counts_of n g ≡ bump (counts_of m) hart g = ap (λ (f : ℕ → ℕ). f g) counts in
      elim (same_or_not hart g) [
        | inl same ↦
            let one : bump (counts_of m) hart hart ≡ counts_of m hart + 1 = bump_same (counts_of m) hart in
            let to : bump (counts_of m) hart hart ≡ bump (counts_of m) hart g = ap (bump (counts_of m) hart) same in
            let from : counts_of m hart ≡ counts_of m g = ap (counts_of m) same in
            omega (arith, is, one, to, from)
        | inr other ↦ let kept = bump_other (counts_of m) hart g other in omega (arith, is, kept)
      ]

  quiet_later : (g stop : ℕ) → IsQuietTo leg g (counts_of m g) stop → IsQuietTo leg g (counts_of n g) stop
  quiet_later g stop quiet =
      let more = grown g in
      record {
        within = quiet.within;
        edges = λ e has own from. quiet.edges e has own (omega (arith, more, from));
        inputs = λ k from below. quiet.inputs k (omega (arith, more, from)) below;
      }

  pub quiet_on : (stops : List ℕ) → AreQuiet leg m stops → AreQuiet leg n stops
  quiet_on stops quiet = λ g lt. quiet_later g (slice_index stops g) (quiet g (omega (arith, lt, large)))

  -- the hart that went has a stop of its next count
  pub quiet_put : (stops : List ℕ) (count stop : ℕ) → length stops ≡ HART_ROW → hart < HART_ROW → count ≡ counts_of m hart → AreQuiet leg m stops →
      IsQuietTo leg hart (count + 1) stop → AreQuiet leg n (slice_set stops hart stop)
  quiet_put stops count stop rows few is quiet new = λ g lt.
      elim (same_or_not hart g) [
        | inl same ↦
            let now : counts_of n g ≡ bump (counts_of m) hart g = ap (λ (f : ℕ → ℕ). f g) counts in
            let one : bump (counts_of m) hart hart ≡ counts_of m hart + 1 = bump_same (counts_of m) hart in
            let to : bump (counts_of m) hart hart ≡ bump (counts_of m) hart g = ap (bump (counts_of m) hart) same in
            let next : count + 1 ≡ counts_of n g = omega (arith, now, one, to, is) in
            let put : slice_index (slice_set stops hart stop) g ≡ stop =
            ap (slice_index (slice_set stops hart stop)) (sym same) ∙ index_set_same stops hart stop (omega (arith, rows, few)) in
            subst (λ (s : ℕ). IsQuietTo leg g (counts_of n g) s) (sym put)
            (subst (λ (k : ℕ). IsQuietTo leg g k stop) next (subst (λ (h : ℕ). IsQuietTo leg h (count + 1) stop) same new))
        | inr other ↦
            subst (λ (s : ℕ). IsQuietTo leg g (counts_of n g) s) (sym (index_set_other stops hart g stop other))
            (quiet_later g (slice_index stops g) (quiet g (omega (arith, lt, large))))
      ]
    where
      index_set_same : (xs : List ℕ) (i x : ℕ) → i < length xs → slice_index (slice_set xs i x) i ≡ x
      index_set_same [] i x lt = absurd (omega (arith, lt))
      index_set_same (y ∷ ys) zero x lt = refl
      index_set_same (y ∷ ys) (suc i) x lt = index_set_same ys i x (omega (arith, lt))

      index_set_other : (xs : List ℕ) (i j x : ℕ) → i ≢ j → slice_index (slice_set xs i x) j ≡ slice_index xs j
      index_set_other [] i j x ne = refl
      index_set_other (y ∷ ys) zero zero x ne = absurd (ne refl)
      index_set_other (y ∷ ys) zero (suc j) x ne = refl
      index_set_other (y ∷ ys) (suc i) zero x ne = refl
      index_set_other (y ∷ ys) (suc i) (suc j) x ne = index_set_other ys i j x (λ same. ne (omega (arith, same)))
