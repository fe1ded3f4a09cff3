-- The greatest number that is noted in legs.
use Rattle.std.proofs.Common.{◌≡◌, ℕ, zero, suc, ◌+◌, ◌<◌, ◌≤◌, max, List, [], ◌∷◌, ◌++◌, All, Contains, take, length, get_or, refl, sym, ap, subst, ◌∙◌, arith, inl, inr}
use Rattle.std.proofs.lemmas.List.{take_more}
use Rattle.ft_types.specs.Counts.{count_at, greater}
use Rattle.hart_replay.specs.declared.plans.PlannedLeg.{PlannedLeg}
use Rattle.hart_replay.specs.Plans.{noted_in}

-- hart by hart, the greater of two rows
pub greater_at : (a b : List ℕ) → length a ≡ length b → (hart : ℕ) → count_at (greater a b) hart ≡ max (count_at a hart) (count_at b hart)
greater_at [] [] same hart = omega arith
greater_at [] (y ∷ b) same hart = absurd (omega (arith, same))
greater_at (x ∷ a) [] same hart = absurd (omega (arith, same))
greater_at (x ∷ a) (y ∷ b) same zero = refl
greater_at (x ∷ a) (y ∷ b) same (suc hart) = greater_at a b (omega (arith, same)) hart

-- and as many
pub length_greater : (a b : List ℕ) → length a ≡ length b → length (greater a b) ≡ length a
length_greater [] [] same = refl
length_greater [] (y ∷ b) same = absurd (omega (arith, same))
length_greater (x ∷ a) [] same = absurd (omega (arith, same))
length_greater (x ∷ a) (y ∷ b) same = omega (arith, length_greater a b (omega (arith, same)))

noted_append : (front back : List PlannedLeg) (hart : ℕ) → noted_in (front ++ back) hart ≡ max (noted_in front hart) (noted_in back hart)
noted_append [] back hart = omega arith
noted_append (leg ∷ front) back hart = omega (arith, noted_append front back hart)

-- one more leg
pub noted_more : (legs : List PlannedLeg) (i : ℕ) (leg : PlannedLeg) (hart : ℕ) → i < length legs → leg ≡ get_or legs i leg →
    noted_in (take (i + 1) legs) hart ≡ max (noted_in (take i legs) hart) (count_at leg.marks hart)
noted_more legs i leg hart less is =
    let whole : take (i + 1) legs ≡ take i legs ++ leg ∷ [] = take_more legs i leg less ∙ ap (λ x. take i legs ++ x ∷ []) (sym is) in
    let both = noted_append (take i legs) (leg ∷ []) hart in
    rw whole (omega (arith, both))
