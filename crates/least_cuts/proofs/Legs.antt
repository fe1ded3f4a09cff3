-- Legs of a plan: where each begins, and one more of them.
use Rattle.std.proofs.Common.{◌≡◌, ℕ, zero, suc, ◌+◌, ◌++◌, List, [], ◌∷◌, All, Some, drop, take, slice_get, refl, ap, sym, subst, ◌∙◌, arith}
use Rattle.std.proofs.lemmas.List.Elements.{All-head, All-tail}
use Rattle.ft_types.specs.Counts.{count_at}
use Rattle.guest_image.specs.Machine.{MachineState}
use Rattle.hart_replay.specs.declared.plans.PlannedLeg.{PlannedLeg}
use Rattle.hart_replay.specs.Plans.{IsLeg, GoOn}
use Rattle.hart_replay.specs.Replays.{LegLeads, LegsLead}

-- each leg of a plan is one
pub leg_of_all : (many : ℕ) (legs : List PlannedLeg) (place : ℕ) (leg : PlannedLeg) → All (IsLeg many) legs → slice_get legs place ≡ Some leg → IsLeg many leg
leg_of_all many [] place leg all is = cc
leg_of_all many (x ∷ legs) zero leg all is = let same : x ≡ leg = cc in subst (IsLeg many) same (All-head (IsLeg many) x legs all)
leg_of_all many (x ∷ legs) (suc place) leg all is = leg_of_all many legs place leg (All-tail (IsLeg many) x legs all) is

-- the next leg begins where one ends
pub next_base : (now : ℕ → ℕ) (legs : List PlannedLeg) (place next : ℕ) (leg other : PlannedLeg) → GoOn now legs → next ≡ place + 1 →
    slice_get legs place ≡ Some leg → slice_get legs next ≡ Some other → (hart : ℕ) → count_at other.base hart ≡ count_at leg.ends hart
next_base now [] place next leg other on is at there hart = cc
next_base now (x ∷ legs) place zero leg other on is at there hart = absurd (omega (arith, is))
next_base now (x ∷ []) zero (suc next) leg other on is at there hart = cc
next_base now (x ∷ y ∷ legs) zero (suc next) leg other on is at there hart =
    let first : next ≡ 0 = omega (arith, is) in
    let same : x ≡ leg = cc in
    let found : Some y ≡ Some other = ap (slice_get (y ∷ legs)) (sym first) ∙ there in
    let second : y ≡ other = cc in
    ap (λ (l : PlannedLeg). count_at l.base hart) (sym second) ∙ on.1.0 hart ∙ ap (λ (l : PlannedLeg). count_at l.ends hart) same
next_base now (x ∷ legs) (suc place) (suc next) leg other on is at there hart =
    next_base (count_at x.ends) legs place next leg other on.1 (omega (arith, is)) at there hart

pub first_base : (now : ℕ → ℕ) (legs : List PlannedLeg) (leg : PlannedLeg) → GoOn now legs → slice_get legs 0 ≡ Some leg → (hart : ℕ) → count_at leg.base hart ≡ now hart
first_base now [] leg on is hart = cc
first_base now (x ∷ legs) leg on is hart = let same : x ≡ leg = cc in ap (λ (l : PlannedLeg). count_at l.base hart) (sym same) ∙ on.0 hart

-- one leg more was led
pub led_more : (front : List PlannedLeg) (leg : PlannedLeg) (m k n : MachineState) → LegsLead front m k → LegLeads leg k n → LegsLead (front ++ leg ∷ []) m n
led_more [] leg m k n same leads = (n, subst (λ (x : MachineState). LegLeads leg x n) same leads, refl)
led_more (x ∷ front) leg m k n (next, first, rest) leads = (next, first, led_more front leg next k n rest leads)

-- a list about one of its places
pub about : {A : Type 0} (xs : List A) (i : ℕ) (x : A) → slice_get xs i ≡ Some x → xs ≡ take i xs ++ x ∷ drop (suc i) xs
about [] i x e = cc
about (y ∷ xs) zero x e = let same : y ≡ x = cc in ap (λ z. z ∷ xs) same
about (y ∷ xs) (suc i) x e = ap (λ l. y ∷ l) (about xs i x e)

pub some_is : {A : Type 0} (x y : A) → Some x ≡ Some y → x ≡ y
some_is x y e = cc

-- a place of a plan has one leg
pub one_leg : (legs : List PlannedLeg) (place : ℕ) (leg other : PlannedLeg) → slice_get legs place ≡ Some leg → slice_get legs place ≡ Some other → leg ≡ other
one_leg legs place leg other is was = some_is leg other (sym is ∙ was)
