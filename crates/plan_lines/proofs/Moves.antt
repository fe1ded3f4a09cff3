-- The line is one: from each standing at most one move leads on.
use Rattle.std.proofs.Common.{◌≡◌, ◌⊎◌, inl, inr, ℕ, ◌<◌, ◌≤◌, List, [], ◌∷◌, Option, Some, length, slice_get, true, false, refl, ap, sym, subst, ◌∙◌, arith}
use Rattle.std.proofs.lemmas.Bool.{cases_lt}
use Rattle.interleaving.specs.Stored.{halted_of}
use Rattle.rv32_hart.specs.Hart.{Hart}
use Rattle.rv32_hart.specs.Hardware.{hardware}
use Rattle.guest_image.specs.Machine.{MachineState}
use Rattle.hart_lease.specs.Runs.{run_of}
use Rattle.hart_replay.specs.declared.plans.PlannedLeg.{PlannedLeg}
use Rattle.hart_replay.specs.Replays.{is_halted}
use Rattle.hart_replay.specs.Leading.{AreAtEnds}
use Rattle.hart_replay.proofs.Fronts.{past_all}
use Rattle.least_cuts.proofs.Legs.{one_leg, some_is}
use Rattle.plan_lines.specs.Line.{MayGo, IsNext, Steps, Standing, stepped, turned, turn_in, Leads}
use Rattle.plan_lines.specs.Line.{Begins, StepsOn, TurnsOn}

-- a hart that runs is there
pub runs_there : (m : MachineState) (hart : ℕ) → is_halted m hart ≡ false → hart < length m.harts
runs_there m hart runs =
    elim (cases_lt hart (length m.harts)) [
      | inl lt ↦ lt
      | inr le ↦
          let none : is_halted m hart ≡ true = ap (λ (o : Option Hart). halted_of (hardware (length m.pages)) o) (past_all m.harts hart le) in
          let both : true ≡ false = sym none ∙ runs in
          cc
    ]

-- one hart comes next
pub one_next : (leg : PlannedLeg) (m : MachineState) (a b : ℕ) → IsNext leg m a → IsNext leg m b → a ≡ b
one_next leg m a b next other =
    elim (next.first b other.may) [
      | inl less ↦
          elim (other.first a next.may) [
            | inl more ↦ absurd (omega (arith, less, more))
            | inr same ↦ let is = same.0 in absurd (omega (arith, less, is))
          ]
      | inr (is, le) ↦
          elim (other.first a next.may) [
            | inl more ↦ absurd (omega (arith, is, more))
            | inr same ↦ let ge = same.1 in omega (arith, le, ge)
          ]
    ]

-- none does where all are at their ends
pub none_at_ends : (leg : PlannedLeg) (m : MachineState) (hart : ℕ) → AreAtEnds m leg.ends → MayGo leg m hart → ⊥
none_at_ends leg m hart ends may =
    let le = ends hart (runs_there m hart may.runs) in
    let lt = may.below in
    omega (arith, le, lt)

-- one move on the line
pub data Move (legs : List PlannedLeg) (s : Standing) : Standing → Type 0 where
  Step : (leg : PlannedLeg) (hart : ℕ) (n : MachineState) → slice_get legs s.place ≡ Some leg → IsNext leg s.machine hart →
      Steps leg s.machine hart n → Move legs s (stepped s n)
  Turn : (leg : PlannedLeg) → slice_get legs s.place ≡ Some leg → AreAtEnds s.machine leg.ends → Move legs s (turned s)

step_is : (legs : List PlannedLeg) (s a : Standing) (leg : PlannedLeg) (hart : ℕ) (n : MachineState) → slice_get legs s.place ≡ Some leg →
    IsNext leg s.machine hart → Steps leg s.machine hart n → Move legs s a → stepped s n ≡ a
step_is legs s a leg hart n at next steps (Step other g k there first did) =
    let same : other ≡ leg = one_leg legs s.place other leg there at in
    let hart_is : g ≡ hart =
    one_next leg s.machine g hart (subst (λ (l : PlannedLeg). IsNext l s.machine g) same first) next in
    let went : run_of s.machine (turn_in leg s.machine hart ∷ []) ≡ Some k =
    ap (λ (l : PlannedLeg). run_of s.machine (turn_in l s.machine hart ∷ [])) (sym same)
    ∙ ap (λ (h : ℕ). run_of s.machine (turn_in other s.machine h ∷ [])) (sym hart_is) ∙ did in
    ap (stepped s) (some_is n k (sym steps ∙ went))
step_is legs s a leg hart n at next steps (Turn other there ends) =
    let same : other ≡ leg = one_leg legs s.place other leg there at in
    absurd (none_at_ends leg s.machine hart (subst (λ (l : PlannedLeg). AreAtEnds s.machine l.ends) same ends) next.may)

turn_is : (legs : List PlannedLeg) (s a : Standing) (leg : PlannedLeg) → slice_get legs s.place ≡ Some leg → AreAtEnds s.machine leg.ends →
    Move legs s a → turned s ≡ a
turn_is legs s a leg at ends (Step other g k there first did) =
    let same : other ≡ leg = one_leg legs s.place other leg there at in
    absurd (none_at_ends leg s.machine g ends (subst (λ (l : PlannedLeg). IsNext l s.machine g) same first).may)
turn_is legs s a leg at ends (Turn other there others) = refl

one_move : (legs : List PlannedLeg) (s a b : Standing) → Move legs s a → Move legs s b → a ≡ b
one_move legs s a b (Step leg hart n at next steps) other = step_is legs s b leg hart n at next steps other
one_move legs s a b (Turn leg at ends) other = turn_is legs s b leg at ends other

-- one move more
pub moved : (legs : List PlannedLeg) (s t u : Standing) → Leads legs s t → Move legs t u → Leads legs s u
moved legs s t u leads (Step leg hart n at next steps) = StepsOn leg hart n leads at next steps
moved legs s t u leads (Turn leg at ends) = TurnsOn leg leads at ends

-- the line from the first to the second is at its beginning, or begins with a move
abbrev pub Parted : List PlannedLeg → Standing → Standing → Type 0
Parted legs s t = (s ≡ t) ⊎ ((c : Standing) × Move legs s c × Leads legs c t)

part_more : (legs : List PlannedLeg) (s t u : Standing) → Parted legs s t → Move legs t u → Parted legs s u
part_more legs s t u (inl same) move = inr (u, subst (λ (x : Standing). Move legs x u) (sym same) move, Begins)
part_more legs s t u (inr (c, first, rest)) move = inr (c, first, moved legs c t u rest move)

pub parted : (legs : List PlannedLeg) (s t : Standing) → Leads legs s t → Parted legs s t
parted legs s t Begins = inl refl
parted legs s t (StepsOn {t = u} leg hart n leads at next steps) =
    part_more legs s u t (parted legs s u leads) (Step leg hart n at next steps)
parted legs s t (TurnsOn {t = u} leg leads at ends) = part_more legs s u t (parted legs s u leads) (Turn leg at ends)

abbrev pub Along : List PlannedLeg → Standing → Standing → Type 0
Along legs a b = Leads legs a b ⊎ Leads legs b a

along_more : (legs : List PlannedLeg) (b t u : Standing) → Along legs t b → Move legs t u → Along legs u b
along_more legs b t u (inr back) move = inr (moved legs b t u back move)
along_more legs b t u (inl on) move =
    elim (parted legs t b on) [
      | inl same ↦ inr (moved legs b t u (subst (λ (x : Standing). Leads legs b x) (sym same) Begins) move)
      | inr (c, first, rest) ↦ inl (subst (λ (x : Standing). Leads legs x b) (one_move legs t c u first move) rest)
    ]

-- of two standings on the line one comes behind the other
pub along : (legs : List PlannedLeg) (s a b : Standing) → Leads legs s a → Leads legs s b → Along legs a b
along legs s a b Begins other = inl other
along legs s a b (StepsOn {t = u} leg hart n leads at next steps) other =
    along_more legs b u a (along legs s u b leads other) (Step leg hart n at next steps)
along legs s a b (TurnsOn {t = u} leg leads at ends) other = along_more legs b u a (along legs s u b leads other) (Turn leg at ends)

-- what a line does to moments and machines
pub later : (legs : List PlannedLeg) (s t : Standing) → Leads legs s t → s.moment ≤ t.moment
later legs s t Begins = omega arith
later legs s t (StepsOn {t = u} leg hart n leads at next steps) = let le = later legs s u leads in omega (arith, le)
later legs s t (TurnsOn {t = u} leg leads at ends) = later legs s u leads

pub same_moment : (legs : List PlannedLeg) (s t : Standing) → Leads legs s t → s.moment ≡ t.moment → s.machine ≡ t.machine
same_moment legs s t Begins is = refl
same_moment legs s t (StepsOn {t = u} leg hart n leads at next steps) is =
    let le = later legs s u leads in absurd (omega (arith, le, is))
same_moment legs s t (TurnsOn {t = u} leg leads at ends) is = same_moment legs s u leads is

-- at a moment there is one machine
pub one_machine : (legs : List PlannedLeg) (s a b : Standing) → Leads legs s a → Leads legs s b → a.moment ≡ b.moment → a.machine ≡ b.machine
one_machine legs s a b first second is =
    elim (along legs s a b first second) [
      | inl on ↦ same_moment legs a b on is
      | inr back ↦ sym (same_moment legs b a back (sym is))
    ]
