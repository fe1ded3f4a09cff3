-- The counts along a line: none falls, and a step adds one to one of them.
use Rattle.std.proofs.Common.{◌≡◌, ◌⊎◌, inl, inr, ℕ, zero, suc, ◌+◌, ◌<◌, ◌≤◌, Bool, true, false, List, length, Some, slice_get, refl, ap, subst, arith}
use Rattle.std.proofs.Math.ListN.{get_or-eq_default}
use Rattle.std.proofs.lemmas.Bool.{cases_lt}
use Rattle.ft_types.specs.Counts.{count_at}
use Rattle.ft_types.specs.Guests.{GuestParts}
use Rattle.interleaving.specs.Log.{bump}
use Rattle.interleaving.proofs.Put.{same_or_not, bump_same, bump_other, bump_le}
use Rattle.guest_image.specs.Machine.{MachineState}
use Rattle.hart_lease.specs.Runs.{counts_of, steps_taken}
use Rattle.hart_replay.specs.declared.plans.PlannedLeg.{PlannedLeg}
use Rattle.hart_replay.proofs.Fronts.{past_all}
use Rattle.plan_lines.specs.Line.{LineView, Standing, standing_at, stepped, Leads, IsAt, ends_of, steps_of}
use Rattle.plan_lines.specs.Line.{Begins, StepsOn, TurnsOn}
use Rattle.plan_lines.specs.machinery.Kept.{IsBegun}
use Rattle.plan_lines.proofs.Moves.{along, later, same_moment}
use Rattle.plan_lines.proofs.Standings.{Holds, holds_at, counts_step, ends_below}
use Rattle.least_cuts.proofs.Sums.{upto_less, upto_sum, upto_more}

bump_most : (now : ℕ → ℕ) (hart h : ℕ) → bump now hart h ≤ now h + 1
bump_most now hart h =
    elim (same_or_not hart h) [
      | inl same ↦
          let one : bump now hart hart ≡ now hart + 1 = bump_same now hart in
          let to : bump now hart hart ≡ bump now hart h = ap (bump now hart) same in
          let from : now hart ≡ now h = ap now same in
          omega (arith, one, to, from)
      | inr other ↦ let kept = bump_other now hart h other in omega (arith, kept)
    ]

pub counts_grow : (legs : List PlannedLeg) (s t : Standing) → Leads legs s t → (h : ℕ) → counts_of s.machine h ≤ counts_of t.machine h
counts_grow legs s t Begins h = omega arith
counts_grow legs s t (StepsOn {t = u} leg hart n leads at next steps) h =
    let before = counts_grow legs s u leads h in
    let more = bump_le (counts_of u.machine) hart h in
    let is : counts_of n h ≡ bump (counts_of u.machine) hart h = ap (λ (f : ℕ → ℕ). f h) (counts_step leg u.machine n hart steps) in
    omega (arith, before, more, is)
counts_grow legs s t (TurnsOn {t = u} leg leads at ends) h = counts_grow legs s u leads h

-- no later moment has fewer steps of a hart
pub counts_rise : (legs : List PlannedLeg) (start : MachineState) (first second : ℕ) (m n : MachineState) → IsAt legs start first m →
    IsAt legs start second n → first ≤ second → (h : ℕ) → counts_of m h ≤ counts_of n h
counts_rise legs start first second m n (place, leads) (other, goes) le h =
    elim (along legs (standing_at start) (record { place = place; moment = first; machine = m }) (record { place = other; moment = second; machine = n }) leads goes) [
      | inl on ↦ counts_grow legs _ _ on h
      | inr back ↦
          let ge : second ≤ first = later legs _ _ back in
          let same : second ≡ first = omega (arith, le, ge) in
          let is : n ≡ m = same_moment legs _ _ back same in
          let eq : counts_of n h ≡ counts_of m h = ap (λ (x : MachineState). counts_of x h) is in
          omega (arith, eq)
    ]

-- a moment before one, from which a step led to it
pub record IsBefore (legs : List PlannedLeg) (start : MachineState) (moment : ℕ) (m : MachineState) : Type 0 where
  pub machine : MachineState
  pub at : IsAt legs start moment machine
  pub most : (h : ℕ) → counts_of m h ≤ counts_of machine h + 1

step_before : (legs : List PlannedLeg) (start : MachineState) (t : Standing) (moment : ℕ) → Leads legs (standing_at start) t → t.moment ≡ moment + 1 →
    IsBefore legs start moment t.machine
step_before legs start t moment Begins is = absurd (omega (arith, is))
step_before legs start t moment (StepsOn {t = u} leg hart n leads at next steps) is =
    record {
      machine = u.machine;
      at =
          let same : u.moment ≡ moment = omega (arith, is) in
          (u.place, subst (λ (k : ℕ). Leads legs (standing_at start) (record { place = u.place; moment = k; machine = u.machine })) same leads);
      most = λ h.
          let one = bump_most (counts_of u.machine) hart h in
          let eq : counts_of n h ≡ bump (counts_of u.machine) hart h = ap (λ (f : ℕ → ℕ). f h) (counts_step leg u.machine n hart steps) in
          omega (arith, one, eq);
    }
step_before legs start t moment (TurnsOn {t = u} leg leads at ends) is = step_before legs start u moment leads is

pub before_is : (legs : List PlannedLeg) (start : MachineState) (moment : ℕ) (m : MachineState) → IsAt legs start (moment + 1) m →
    IsBefore legs start moment m
before_is legs start moment m (place, leads) = step_before legs start (record { place = place; moment = moment + 1; machine = m }) moment leads refl

-- where each earlier moment has fewer steps of a hart, this one has no more than so many
pub most_there : (legs : List PlannedLeg) (start : MachineState) (moment : ℕ) (m : MachineState) (hart count : ℕ) → IsAt legs start moment m →
    ((k : ℕ) (n : MachineState) → k < moment → IsAt legs start k n → counts_of n hart < count) → (moment ≡ 0 → counts_of m hart ≤ count) →
    counts_of m hart ≤ count
most_there legs start zero m hart count at fewer none = none refl
most_there legs start (suc k) m hart count at fewer none =
    let before = before_is legs start k m (subst (λ (n : ℕ). IsAt legs start n m) (omega arith) at) in
    let less = fewer k before.machine (omega arith) before.at in
    let most = before.most hart in
    omega (arith, less, most)

module _ (guest : GuestParts) (legs : List PlannedLeg) (s : Standing) (begun : IsBegun guest legs s) where
  -- no count is past the end of the line
  pub counts_within : (t : Standing) (leg : PlannedLeg) → Leads legs s t → slice_get legs t.place ≡ Some leg → (h : ℕ) →
      counts_of t.machine h ≤ count_at (ends_of legs) h
  counts_within t leg leads at h =
      let le = (holds_at guest legs begun.plan s t begun leads).within leg at h in
      let last = ends_below guest.harts (λ h. 0) legs t.place leg begun.plan.each begun.plan.on at h in
      omega (arith, le, last)

  pub counts_most : (t : Standing) → Leads legs s t → (h : ℕ) → counts_of t.machine h ≤ count_at (ends_of legs) h
  counts_most t Begins h = let none = begun.boot h in omega (arith, none)
  counts_most t (StepsOn {t = u} leg hart n leads at next steps) h = counts_within (stepped u n) leg (StepsOn leg hart n leads at next steps) at h
  counts_most t (TurnsOn {t = u} leg leads at ends) h = counts_most u leads h

  -- at the last moment each hart has come to the end of the line
  pub counts_all : (t : Standing) → Leads legs s t → t.moment ≡ steps_of legs → (h : ℕ) → counts_of t.machine h ≡ count_at (ends_of legs) h
  counts_all t leads all h =
      let le = counts_most t leads h in
      elim (cases_lt (counts_of t.machine h) (count_at (ends_of legs) h)) [
        | inl lt ↦ absurd (fewer lt)
        | inr ge ↦ omega (arith, le, ge)
      ]
    where
      holds : Holds legs guest.harts t
      holds = holds_at guest legs begun.plan s t begun leads

      behind : (j : ℕ) → guest.harts ≤ j → counts_of t.machine j ≡ 0
      behind j over = ap steps_taken (past_all t.machine.harts j (let many = holds.harts in omega (arith, over, many)))

      there : counts_of t.machine h < count_at (ends_of legs) h → h < length (ends_of legs) + guest.harts
      there lt =
          elim (cases_lt h (length (ends_of legs))) [
            | inl below ↦ omega (arith, below)
            | inr over ↦ let none : count_at (ends_of legs) h ≡ 0 = get_or-eq_default (ends_of legs) 0 over in absurd (omega (arith, lt, none))
          ]

      fewer : counts_of t.machine h < count_at (ends_of legs) h → ⊥
      fewer lt =
          let total = holds.total in
          let own = upto_more (counts_of t.machine) guest.harts (length (ends_of legs)) behind in
          let ends = upto_sum (ends_of legs) (length (ends_of legs) + guest.harts) (omega arith) in
          let less = upto_less (counts_of t.machine) (count_at (ends_of legs)) (length (ends_of legs) + guest.harts) h (counts_most t leads) (there lt) lt in
          omega (arith, total, own, ends, less, all)

-- ---- on the way to a count of a hart

-- each earlier moment of the line has fewer steps of the hart
abbrev pub AreFewer : LineView → ℕ → ℕ → Type 0
AreFewer v hart count = (moment : ℕ) (m : MachineState) → moment < v.stands.moment → IsAt v.legs v.start moment m → counts_of m hart < count

abbrev pub LeadsThere : LineView → Type 0
LeadsThere v = Leads v.legs (standing_at v.start) v.stands

at_there : (v : LineView) → LeadsThere v → IsAt v.legs v.start v.stands.moment v.stands.machine
at_there v leads = (v.stands.place, leads)

pub fewer_first : (v : LineView) (hart count : ℕ) → LeadsThere v → (v.stands.moment ≡ 0) ⊎ (counts_of v.stands.machine hart < count) → AreFewer v hart count
fewer_first v hart count leads below = λ moment m lt at.
    elim below [
      | inl none ↦ absurd (omega (arith, lt, none))
      | inr less ↦
          let le = counts_rise v.legs v.start moment v.stands.moment m v.stands.machine at (at_there v leads) (omega (arith, lt)) hart in
          omega (arith, le, less)
    ]

pub fewer_next : (b n : LineView) (hart count : ℕ) → LeadsThere b → n ≡ record b { stands = n.stands } → n.stands.moment ≡ b.stands.moment + 1 →
    counts_of b.stands.machine hart < count → AreFewer n hart count
fewer_next b n hart count leads on next less = λ moment m lt at.
    let back : IsAt b.legs b.start moment m = subst (λ (u : LineView). IsAt u.legs u.start moment m) on at in
    let le = counts_rise b.legs b.start moment b.stands.moment m b.stands.machine back (at_there b leads) (omega (arith, lt, next)) hart in
    omega (arith, le, less)

pub count_there : (v : LineView) (hart count : ℕ) → LeadsThere v → AreFewer v hart count → (v.stands.moment ≡ 0 → counts_of v.stands.machine hart ≤ count) →
    count ≤ counts_of v.stands.machine hart → counts_of v.stands.machine hart ≡ count
count_there v hart count leads fewer none ge =
    let le = most_there v.legs v.start v.stands.moment v.stands.machine hart count (at_there v leads) fewer none in
    omega (arith, le, ge)

-- a line that is not at its end goes on
pub went_on : (a b : LineView) (hart count end : ℕ) → b ≡ record a { stands = b.stands } → LeadsThere b →
    ((m : MachineState) → IsAt a.legs a.start (steps_of a.legs) m → counts_of m hart ≡ end) → count ≤ end → counts_of b.stands.machine hart < count →
    (went : Bool) → (went ≡ false → b.stands.moment ≡ steps_of b.legs) → went ≡ true
went_on a b hart count end on leads all le less true last = refl
went_on a b hart count end on leads all le less false last =
    let there : IsAt a.legs a.start (steps_of a.legs) b.stands.machine =
    subst (λ (u : LineView). IsAt u.legs u.start (steps_of u.legs) b.stands.machine) on
    (subst (λ (k : ℕ). IsAt b.legs b.start k b.stands.machine) (last refl) (at_there b leads)) in
    let is = all b.stands.machine there in
    absurd (omega (arith, is, le, less))
