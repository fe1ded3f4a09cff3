-- What a timeline keeps, from what its code has.
use Rattle.std.proofs.Common.{◌≡◌, ◌⊎◌, inl, inr, ℕ, zero, suc, ◌+◌, ◌-◌, ◌<◌, ◌≤◌, List, [], ◌∷◌, length, Some, slice_get, refl, ap, arith}
use Rattle.ft_types.specs.Guests.{GuestParts}
use Rattle.hart_replay.specs.declared.plans.PlannedLeg.{PlannedLeg}
use Rattle.hart_replay.specs.Leading.{AreAtEnds}
use Rattle.plan_lines.specs.Line.{IsNext, Standing, Leads, steps_of}
use Rattle.plan_lines.specs.Line.{Begins, StepsOn, TurnsOn}
use Rattle.plan_lines.specs.machinery.Kept.{IsBegun, Stands, IsTurned}
use Rattle.plan_lines.proofs.Standings.{holds_at, room, within_all, all_taken}

-- where there is no leg the line leads nowhere
nowhere : (legs : List PlannedLeg) (s t : Standing) → length legs ≡ 0 → Leads legs s t → t ≡ s
nowhere [] s t none Begins = refl
nowhere [] s t none (StepsOn {t = u} leg hart n leads at next steps) = cc
nowhere [] s t none (TurnsOn {t = u} leg leads at ends) = cc
nowhere (x ∷ legs) s t none leads = absurd (omega (arith, none))

pub leg_there : (legs : List PlannedLeg) (place : ℕ) → place < length legs → (leg : PlannedLeg) × (slice_get legs place ≡ Some leg)
leg_there [] place lt = absurd (omega (arith, lt))
leg_there (x ∷ legs) zero lt = (x, refl)
leg_there (x ∷ legs) (suc place) lt = leg_there legs place (omega (arith, lt))

some_or_none : (n : ℕ) → (n ≡ 0) ⊎ (0 < n)
some_or_none zero = inl refl
some_or_none (suc n) = inr (omega arith)

module _ (guest : GuestParts) (legs : List PlannedLeg) (first : Standing) (begun : IsBegun guest legs first) where
  -- no moment is past the last step
  pub moment_within : (t : Standing) → Stands legs first t → t.moment ≤ steps_of legs
  moment_within t stands =
      elim (some_or_none (length legs)) [
        | inl none ↦
            let is : t.moment ≡ first.moment = ap (λ (s : Standing). s.moment) (nowhere legs first t none stands.leads) in
            let zero_first : first.moment ≡ 0 = ap (λ (s : Standing). s.moment) begun.is in
            omega (arith, is, zero_first)
        | inr some ↦
            let place = stands.place in
            let there = leg_there legs t.place (omega (arith, place, some)) in
            within_all guest legs begun.plan t there.0 (holds_at guest legs begun.plan first t begun stands.leads) there.1
      ]

  pub step_room : (t : Standing) (leg : PlannedLeg) (hart : ℕ) → Stands legs first t → slice_get legs t.place ≡ Some leg → IsNext leg t.machine hart →
      t.moment + 1 ≤ steps_of legs
  step_room t leg hart stands at next =
      room guest legs begun.plan t leg hart (holds_at guest legs begun.plan first t begun stands.leads) at next

  -- at the last leg's ends each step was taken
  pub ended_all : (t : Standing) (leg : PlannedLeg) → Stands legs first t → slice_get legs t.place ≡ Some leg → IsTurned legs t →
      AreAtEnds t.machine leg.ends → t.moment ≡ steps_of legs
  ended_all t leg stands at turned ends =
      all_taken guest legs begun.plan t leg (holds_at guest legs begun.plan first t begun stands.leads) at (turned leg at ends) ends

  pub none_all : (t : Standing) → Stands legs first t → length legs ≤ t.place → t.moment ≡ steps_of legs
  none_all t stands le =
      let place = stands.place in
      let none : length legs ≡ 0 = omega (arith, place, le) in
      let is : t.moment ≡ first.moment = ap (λ (s : Standing). s.moment) (nowhere legs first t none stands.leads) in
      let zero_first : first.moment ≡ 0 = ap (λ (s : Standing). s.moment) begun.is in
      let steps : steps_of legs ≡ 0 = ap steps_of (no_legs legs none) in
      omega (arith, is, zero_first, steps)
    where
      no_legs : (xs : List PlannedLeg) → length xs ≡ 0 → xs ≡ []
      no_legs [] is = refl
      no_legs (x ∷ xs) is = absurd (omega (arith, is))
