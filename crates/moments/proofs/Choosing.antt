-- The first of the harts that may go, hart by hart.
use Rattle.std.proofs.Common.{◌≡◌, inl, inr, ℕ, ◌+◌, ◌<◌, ◌≤◌, Option, Some, None, ap, subst, arith}
use Rattle.std.proofs.lemmas.Bool.{cases_lt}
use Rattle.guest_image.specs.Machine.{MachineState}
use Rattle.hart_lease.specs.Runs.{counts_of}
use Rattle.hart_replay.specs.declared.plans.PlannedLeg.{PlannedLeg}
use Rattle.plan_lines.specs.Line.{MayGo}
use Rattle.moments.specs.machinery.Choices.{Chosen}

-- the hart has fewer steps than the one so far
abbrev pub CountsLess : MachineState → ℕ → Option ℕ → Type 0
CountsLess m hart None = Unit {0}
CountsLess m hart (Some other) = counts_of m hart < counts_of m other

-- it has as many or more; there is one so far
abbrev pub NotLess : MachineState → ℕ → Option ℕ → Type 0
NotLess m hart None = ⊥
NotLess m hart (Some other) = counts_of m other ≤ counts_of m hart

module _ (leg : PlannedLeg) (m : MachineState) (many : ℕ) where
  -- the next hart may go, and comes before the one so far
  pub chosen_next : (next : Option ℕ) → Chosen leg m many next → MayGo leg m many → CountsLess m many next → Chosen leg m (many + 1) (Some many)
  chosen_next None none may less =
      record {
        below = omega arith;
        may = may;
        first = λ other lt goes.
            elim (cases_lt other many) [
              | inl before ↦ absurd (none other before goes)
              | inr le ↦ let same : many ≡ other = omega (arith, lt, le) in inr (ap (counts_of m) same, omega (arith, same))
            ];
      }
  chosen_next (Some hart) so_far may less =
      record {
        below = omega arith;
        may = may;
        first = λ other lt goes.
            elim (cases_lt other many) [
              | inl before ↦
                  elim (so_far.first other before goes) [
                    | inl fewer ↦ inl (omega (arith, less, fewer))
                    | inr same ↦ let is = same.0 in inl (omega (arith, less, is))
                  ]
              | inr le ↦ let same : many ≡ other = omega (arith, lt, le) in inr (ap (counts_of m) same, omega (arith, same))
            ];
      }

  -- the next hart may not go, or does not come before the one so far
  pub chosen_still : (next : Option ℕ) → Chosen leg m many next → (MayGo leg m many → NotLess m many next) → Chosen leg m (many + 1) next
  chosen_still None none not =
      λ other lt goes.
      elim (cases_lt other many) [
        | inl before ↦ none other before goes
        | inr le ↦
            let same : other ≡ many = omega (arith, lt, le) in
            not (subst (λ (h : ℕ). MayGo leg m h) same goes)
      ]
  chosen_still (Some hart) so_far not =
      record {
        below = let lt = so_far.below in omega (arith, lt);
        may = so_far.may;
        first = λ other lt goes.
            elim (cases_lt other many) [
              | inl before ↦ so_far.first other before goes
              | inr le ↦
                  let same : other ≡ many = omega (arith, lt, le) in
                  let at_least = not (subst (λ (h : ℕ). MayGo leg m h) same goes) in
                  let is : counts_of m other ≡ counts_of m many = ap (counts_of m) same in
                  let there = so_far.below in
                  elim (cases_lt (counts_of m hart) (counts_of m many)) [
                    | inl fewer ↦ inl (omega (arith, fewer, is))
                    | inr more ↦ inr (omega (arith, more, at_least, is), omega (arith, there, same))
                  ]
            ];
      }
