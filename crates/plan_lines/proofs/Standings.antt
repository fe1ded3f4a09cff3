-- What holds of each standing of a plan's line: its moment is the sum of its counts, none of which is past its leg's end.
use Rattle.std.proofs.Common.{◌≡◌, inl, inr, ℕ, zero, suc, ◌+◌, ◌<◌, ◌≤◌, List, [], ◌∷◌, All, Some, length, slice_get, sum, refl, ap, sym, ◌∙◌, arith}
use Rattle.std.proofs.lemmas.Bool.{cases_lt}
use Rattle.std.proofs.lemmas.List.Elements.{All-head, All-tail}
use Rattle.ft_types.specs.Counts.{count_at}
use Rattle.ft_types.specs.Guests.{GuestParts}
use Rattle.interleaving.specs.Log.{bump}
use Rattle.interleaving.proofs.Put.{same_or_not, bump_same, bump_other}
use Rattle.guest_image.specs.Machine.{MachineState}
use Rattle.hart_lease.specs.Runs.{counts_of, steps_taken}
use Rattle.hart_lease.proofs.journals.Sizes.{as_large, counts_ran}
use Rattle.hart_replay.specs.declared.plans.PlannedLeg.{PlannedLeg}
use Rattle.hart_replay.specs.Plans.{IsLeg, IsPlan, GoOn, log_of}
use Rattle.hart_replay.specs.Leading.{AreAtEnds}
use Rattle.hart_replay.proofs.Fronts.{past_all}
use Rattle.least_cuts.proofs.Legs.{leg_of_all, next_base, first_base, one_leg}
use Rattle.plan_lines.specs.Line.{IsNext, Steps, Standing, stepped, turned, turn_in, Leads, ends_of, steps_of}
use Rattle.plan_lines.specs.Line.{Begins, StepsOn, TurnsOn}
use Rattle.plan_lines.specs.machinery.Kept.{IsBegun}
use Rattle.least_cuts.proofs.Sums.{upto, upto_same, upto_less, upto_bump, upto_zero, upto_within, upto_sum, upto_more}
use Rattle.plan_lines.proofs.Moves.{runs_there}

-- no leg ends behind the last one
pub ends_below : (many : ℕ) (now : ℕ → ℕ) (legs : List PlannedLeg) (place : ℕ) (leg : PlannedLeg) → All (IsLeg many) legs → GoOn now legs →
    slice_get legs place ≡ Some leg → (hart : ℕ) → count_at leg.ends hart ≤ count_at (ends_of legs) hart
ends_below many now [] place leg all on is hart = cc
ends_below many now (x ∷ []) zero leg all on is hart =
    let same : x ≡ leg = cc in
    let ends : count_at x.ends hart ≡ count_at leg.ends hart = ap (λ (l : PlannedLeg). count_at l.ends hart) same in
    omega (arith, ends)
ends_below many now (x ∷ []) (suc place) leg all on is hart = cc
ends_below many now (x ∷ y ∷ legs) zero leg all on is hart =
    let same : x ≡ leg = cc in
    let ends : count_at x.ends hart ≡ count_at leg.ends hart = ap (λ (l : PlannedLeg). count_at l.ends hart) same in
    let rest = All-tail (IsLeg many) x (y ∷ legs) all in
    let base : count_at y.base hart ≡ count_at x.ends hart = on.1.0 hart in
    let more : count_at y.base hart ≤ count_at y.ends hart = (All-head (IsLeg many) y legs rest).cut.from_start hart in
    let last = ends_below many (count_at x.ends) (y ∷ legs) 0 y rest on.1 refl hart in
    omega (arith, ends, base, more, last)
ends_below many now (x ∷ y ∷ legs) (suc place) leg all on is hart =
    ends_below many (count_at x.ends) (y ∷ legs) place leg (All-tail (IsLeg many) x (y ∷ legs) all) on.1 is hart

pub last_is : (legs : List PlannedLeg) (place : ℕ) (leg : PlannedLeg) → slice_get legs place ≡ Some leg → length legs ≤ place + 1 → leg.ends ≡ ends_of legs
last_is [] place leg is le = cc
last_is (x ∷ []) zero leg is le = let same : x ≡ leg = cc in ap (λ (l : PlannedLeg). l.ends) (sym same)
last_is (x ∷ []) (suc place) leg is le = cc
last_is (x ∷ y ∷ legs) zero leg is le = absurd (omega (arith, le))
last_is (x ∷ y ∷ legs) (suc place) leg is le = last_is (y ∷ legs) place leg is (omega (arith, le))

-- ---- standings

pub counts_step : (leg : PlannedLeg) (m n : MachineState) (hart : ℕ) → Steps leg m hart n → counts_of n ≡ bump (counts_of m) hart
counts_step leg m n hart steps = counts_ran m n (log_of leg).inputs (hart ∷ []) steps

-- what holds at a standing
pub record Holds (legs : List PlannedLeg) (many : ℕ) (t : Standing) : Type 0 where
  pub harts : length t.machine.harts ≡ many
  pub total : t.moment ≡ upto (counts_of t.machine) many
  pub within : (leg : PlannedLeg) → slice_get legs t.place ≡ Some leg → (hart : ℕ) → counts_of t.machine hart ≤ count_at leg.ends hart
  pub from_base : (leg : PlannedLeg) → slice_get legs t.place ≡ Some leg → (hart : ℕ) → count_at leg.base hart ≤ counts_of t.machine hart

module _ (guest : GuestParts) (legs : List PlannedLeg) (plan : IsPlan guest legs) where
  step_holds : (t : Standing) (leg : PlannedLeg) (hart : ℕ) (n : MachineState) → Holds legs guest.harts t → slice_get legs t.place ≡ Some leg →
      IsNext leg t.machine hart → Steps leg t.machine hart n → Holds legs guest.harts (stepped t n)
  step_holds t leg hart n holds at next steps =
      record {
        harts = (as_large t.machine n (turn_in leg t.machine hart ∷ []) steps).harts ∙ holds.harts;
        total = total;
        within = within;
        from_base = λ other there g.
            let le = holds.from_base other there g in
            let more = grows g in
            omega (arith, le, more);
      }
    where
      counts : counts_of n ≡ bump (counts_of t.machine) hart
      counts = counts_step leg t.machine n hart steps

      lt : hart < guest.harts
      lt = let there = runs_there t.machine hart next.may.runs in let many = holds.harts in omega (arith, there, many)

      total : t.moment + 1 ≡ upto (counts_of n) guest.harts
      total =
          let sum_is : upto (counts_of n) guest.harts ≡ upto (bump (counts_of t.machine) hart) guest.harts = ap (λ (f : ℕ → ℕ). upto f guest.harts) counts in
          let more = upto_bump (counts_of t.machine) guest.harts hart lt in
          let before = holds.total in
          omega (arith, sum_is, more, before)

      grows : (g : ℕ) → counts_of t.machine g ≤ counts_of n g
      grows g =
          let is : counts_of n g ≡ bump (counts_of t.machine) hart g = ap (λ (f : ℕ → ℕ). f g) counts in
          elim (same_or_not hart g) [
            | inl same ↦
                let one : bump (counts_of t.machine) hart hart ≡ counts_of t.machine hart + 1 = bump_same (counts_of t.machine) hart in
                let to : bump (counts_of t.machine) hart hart ≡ bump (counts_of t.machine) hart g = ap (bump (counts_of t.machine) hart) same in
                let from : counts_of t.machine hart ≡ counts_of t.machine g = ap (counts_of t.machine) same in
                omega (arith, is, one, to, from)
            | inr other ↦ let kept = bump_other (counts_of t.machine) hart g other in omega (arith, is, kept)
          ]

      within : (other : PlannedLeg) → slice_get legs t.place ≡ Some other → (h : ℕ) → counts_of n h ≤ count_at other.ends h
      within other there h =
          let is : counts_of n h ≡ bump (counts_of t.machine) hart h = ap (λ (f : ℕ → ℕ). f h) counts in
          let same : count_at leg.ends h ≡ count_at other.ends h = ap (λ (l : PlannedLeg). count_at l.ends h) (one_leg legs t.place leg other at there) in
          let before : counts_of t.machine h ≤ count_at leg.ends h = holds.within leg at h in
          elim (same_or_not hart h) [
            | inl eq ↦
                let one : bump (counts_of t.machine) hart hart ≡ counts_of t.machine hart + 1 = bump_same (counts_of t.machine) hart in
                let to : bump (counts_of t.machine) hart hart ≡ bump (counts_of t.machine) hart h = ap (bump (counts_of t.machine) hart) eq in
                let below = next.may.below in
                let end : count_at leg.ends hart ≡ count_at leg.ends h = ap (count_at leg.ends) eq in
                omega (arith, is, one, to, below, end, same)
            | inr ne ↦ let kept = bump_other (counts_of t.machine) hart h ne in omega (arith, is, kept, before, same)
          ]

  -- the counts of a leg that was led to its end are those of its end
  pub ended_counts : (t : Standing) (leg : PlannedLeg) → Holds legs guest.harts t → slice_get legs t.place ≡ Some leg → AreAtEnds t.machine leg.ends →
      (hart : ℕ) → counts_of t.machine hart ≡ count_at leg.ends hart
  ended_counts t leg holds at ends hart =
      let le = holds.within leg at hart in
      elim (cases_lt hart (length t.machine.harts)) [
        | inl lt ↦ let ge = ends hart lt in omega (arith, le, ge)
        | inr over ↦
            let none : counts_of t.machine hart ≡ 0 = ap steps_taken (past_all t.machine.harts hart over) in
            let many = holds.harts in
            let zero_end = (leg_of_all guest.harts legs t.place leg plan.each at).no_others hart (omega (arith, over, many)) in
            omega (arith, none, zero_end)
      ]

  turn_holds : (t : Standing) (leg : PlannedLeg) → Holds legs guest.harts t → slice_get legs t.place ≡ Some leg → AreAtEnds t.machine leg.ends →
      Holds legs guest.harts (turned t)
  turn_holds t leg holds at ends =
      record {
        harts = holds.harts;
        total = holds.total;
        within = λ next there hart.
            let base = next_base (λ h. 0) legs t.place (t.place + 1) leg next plan.on refl at there hart in
            let is = ended_counts t leg holds at ends hart in
            let more = (leg_of_all guest.harts legs (t.place + 1) next plan.each there).cut.from_start hart in
            omega (arith, base, is, more);
        from_base = λ next there hart.
            let base = next_base (λ h. 0) legs t.place (t.place + 1) leg next plan.on refl at there hart in
            let is = ended_counts t leg holds at ends hart in
            omega (arith, base, is);
      }

  begin_holds : (s : Standing) → IsBegun guest legs s → Holds legs guest.harts s
  begin_holds s begun =
      record {
        harts = begun.harts;
        total = let is : s.moment ≡ 0 = ap (λ (t : Standing). t.moment) begun.is in let none = upto_zero (counts_of s.machine) guest.harts begun.boot in omega (arith, is, none);
        within = λ leg at hart. let none = begun.boot hart in omega (arith, none);
        from_base = λ leg at hart.
            let place : s.place ≡ 0 = ap (λ (t : Standing). t.place) begun.is in
            let base = first_base (λ h. 0) legs leg plan.on (ap (slice_get legs) (sym place) ∙ at) hart in
            omega (arith, base);
      }

  pub holds_at : (s t : Standing) → IsBegun guest legs s → Leads legs s t → Holds legs guest.harts t
  holds_at s t begun Begins = begin_holds s begun
  holds_at s t begun (StepsOn {t = u} leg hart n leads at next steps) = step_holds u leg hart n (holds_at s u begun leads) at next steps
  holds_at s t begun (TurnsOn {t = u} leg leads at ends) = turn_holds u leg (holds_at s u begun leads) at ends

  -- ---- how many steps there are

  abbrev wide : ℕ
  wide = length (ends_of legs) + guest.harts

  total_is : (leg : PlannedLeg) (place : ℕ) → slice_get legs place ≡ Some leg → ends_of legs ≡ leg.ends → upto (count_at leg.ends) guest.harts ≡ steps_of legs
  total_is leg place at is =
      let more = upto_more (count_at leg.ends) guest.harts (length (ends_of legs)) (leg_of_all guest.harts legs place leg plan.each at).no_others in
      let all = upto_sum (ends_of legs) (length (ends_of legs) + guest.harts) (omega arith) in
      let same : upto (count_at (ends_of legs)) (length (ends_of legs) + guest.harts) ≡ upto (count_at leg.ends) (length (ends_of legs) + guest.harts) =
      ap (λ (xs : List ℕ). upto (count_at xs) (length (ends_of legs) + guest.harts)) is in
      omega (arith, more, all, same)

  sum_wide : (f : ℕ → ℕ) → upto f guest.harts ≤ upto f wide
  sum_wide f = grow (length (ends_of legs))
    where
      grow : (k : ℕ) → upto f guest.harts ≤ upto f (k + guest.harts)
      grow zero =
          let same : 0 + guest.harts ≡ guest.harts = omega arith in
          let is : upto f (0 + guest.harts) ≡ upto f guest.harts = ap (upto f) same in
          omega (arith, is)
      grow (suc k) =
          let before = grow k in
          let next : suc k + guest.harts ≡ suc (k + guest.harts) = omega arith in
          let is : upto f (suc k + guest.harts) ≡ upto f (suc (k + guest.harts)) = ap (upto f) next in
          let more : upto f (suc (k + guest.harts)) ≡ upto f (k + guest.harts) + f (k + guest.harts) = refl in
          omega (arith, before, is, more)

  -- there is room for the step that comes next
  pub room : (t : Standing) (leg : PlannedLeg) (hart : ℕ) → Holds legs guest.harts t → slice_get legs t.place ≡ Some leg → IsNext leg t.machine hart →
      t.moment + 1 ≤ steps_of legs
  room t leg hart holds at next =
      let total = holds.total in
      let there = runs_there t.machine hart next.may.runs in
      let many = holds.harts in
      let below = next.may.below in
      let last = ends_below guest.harts (λ h. 0) legs t.place leg plan.each plan.on at in
      let last_here = last hart in
      let less =
      upto_less (counts_of t.machine) (count_at (ends_of legs)) guest.harts hart
      (λ h. let le = holds.within leg at h in let more = last h in omega (arith, le, more))
      (omega (arith, there, many)) (omega (arith, below, last_here)) in
      let wider = sum_wide (count_at (ends_of legs)) in
      let all = upto_sum (ends_of legs) wide (omega arith) in
      omega (arith, total, less, wider, all)

  pub within_all : (t : Standing) (leg : PlannedLeg) → Holds legs guest.harts t → slice_get legs t.place ≡ Some leg → t.moment ≤ steps_of legs
  within_all t leg holds at =
      let total = holds.total in
      let last = ends_below guest.harts (λ h. 0) legs t.place leg plan.each plan.on at in
      let most =
      upto_within (counts_of t.machine) (count_at (ends_of legs)) guest.harts
      (λ h. let le = holds.within leg at h in let more = last h in omega (arith, le, more)) in
      let wider = sum_wide (count_at (ends_of legs)) in
      let all = upto_sum (ends_of legs) wide (omega arith) in
      omega (arith, total, most, wider, all)

  -- at the last leg's ends all steps were taken
  pub all_taken : (t : Standing) (leg : PlannedLeg) → Holds legs guest.harts t → slice_get legs t.place ≡ Some leg → length legs ≤ t.place + 1 →
      AreAtEnds t.machine leg.ends → t.moment ≡ steps_of legs
  all_taken t leg holds at le ends =
      let total = holds.total in
      let same = upto_same (counts_of t.machine) (count_at leg.ends) guest.harts (λ h lt. ended_counts t leg holds at ends h) in
      let all = total_is leg t.place at (sym (last_is legs t.place leg at le)) in
      omega (arith, total, same, all)
