-- The machine at a count of a hart: the leg in which it is, and the leg's least cut there.
use Rattle.std.proofs.Common.{◌≡◌, ◌≢◌, inl, inr, ℕ, zero, suc, ◌-◌, ◌<◌, ◌≤◌, List, [], ◌∷◌, take, All, Contains, Some, slice_get, ap, sym, subst, ◌∙◌, arith}
use Rattle.std.proofs.lemmas.Bool.{cases_lt}
use Rattle.std.proofs.lemmas.List.Elements.{All-head, All-tail}
use Rattle.ft_types.specs.Counts.{count_at}
use Rattle.interleaving.specs.Log.{IsCut}
use Rattle.interleaving.proofs.Cuts.{here_or_later}
use Rattle.hart_replay.specs.declared.plans.PlannedLeg.{PlannedLeg}
use Rattle.hart_replay.specs.Plans.{IsLeg, GoOn, log_of}
use Rattle.least_cuts.specs.Cuts.{IsCutAt, IsLeastCut}
use Rattle.least_cuts.specs.machinery.Raising.{IsLeastAbove}

-- a leg of the front is no later than the count, so the leg there begins no later
pub base_below : (now : ℕ → ℕ) (legs : List PlannedLeg) (hart count n : ℕ) (leg : PlannedLeg) → GoOn now legs → now hart ≤ count →
    All (λ l. count_at l.ends hart < count) (take n legs) → slice_get legs n ≡ Some leg → count_at leg.base hart ≤ count
base_below now [] hart count n leg on le before at = cc
base_below now (x ∷ legs) hart count zero leg on le before at =
    let same : x ≡ leg = cc in
    let base : count_at x.base hart ≡ now hart = on.0 hart in
    let eq : count_at x.base hart ≡ count_at leg.base hart = ap (λ (l : PlannedLeg). count_at l.base hart) same in
    omega (arith, base, eq, le)
base_below now (x ∷ legs) hart count (suc n) leg on le before at =
    let lt = All-head (λ (l : PlannedLeg). count_at l.ends hart < count) x (take n legs) before in
    base_below (count_at x.ends) legs hart count n leg on.1 (omega (arith, lt)) (All-tail (λ (l : PlannedLeg). count_at l.ends hart < count) x (take n legs) before) at

-- the least cut above the count is the least at it, where the hart has so many steps there
pub least_at : (leg : PlannedLeg) (hart count : ℕ) (counts : List ℕ) → IsLeastAbove leg hart count counts → count_at counts hart ≡ count →
    IsLeastCut leg hart count counts
least_at leg hart count counts above is =
    record {
      is_cut = record { cut = above.cut; count = is };
      least = λ other at. above.least other at.cut (let same = at.count in omega (arith, same));
    }

-- where it has more there is no cut with exactly so many
pub none_at : (leg : PlannedLeg) (hart count : ℕ) (counts : List ℕ) → IsLeastAbove leg hart count counts → count_at counts hart ≢ count →
    (cut : ℕ → ℕ) → IsCutAt leg hart count cut → ⊥
none_at leg hart count counts above differs cut at =
    let same = at.count in
    let le = above.least cut at.cut (omega (arith, same)) hart in
    let ge = above.count in
    differs (omega (arith, le, ge, same))

-- legs that go on from a leg that has no such cut, but ends at the count or later, have none either
later_none : (many : ℕ) (now : ℕ → ℕ) (legs : List PlannedLeg) (hart count : ℕ) → All (IsLeg many) legs → GoOn now legs → count < now hart →
    (leg : PlannedLeg) (cut : ℕ → ℕ) → Contains legs leg → IsCutAt leg hart count cut → ⊥
later_none many now [] hart count each on lt leg cut (k, below, is) at = absurd (omega (arith, below))
later_none many now (x ∷ legs) hart count each on lt leg cut has at =
    let base : count_at x.base hart ≡ now hart = on.0 hart in
    let own : IsLeg many x = All-head (IsLeg many) x legs each in
    let more : count_at x.base hart ≤ count_at x.ends hart = own.cut.from_start hart in
    elim (here_or_later x legs leg has) [
      | inl same ↦
          let from : count_at leg.base hart ≤ cut hart = at.cut.from_start hart in
          let is = at.count in
          let eq : count_at x.base hart ≡ count_at leg.base hart = ap (λ (l : PlannedLeg). count_at l.base hart) same in
          omega (arith, from, is, eq, base, lt)
      | inr later ↦
          later_none many (count_at x.ends) legs hart count (All-tail (IsLeg many) x legs each) on.1 (omega (arith, base, more, lt)) leg cut later at
    ]

pub none_of_legs : (many : ℕ) (now : ℕ → ℕ) (legs : List PlannedLeg) (hart count n : ℕ) (first : PlannedLeg) → All (IsLeg many) legs → GoOn now legs →
    All (λ l. count_at l.ends hart < count) (take n legs) → slice_get legs n ≡ Some first → count ≤ count_at first.ends hart →
    ((cut : ℕ → ℕ) → IsCutAt first hart count cut → ⊥) → (leg : PlannedLeg) (cut : ℕ → ℕ) → Contains legs leg → IsCutAt leg hart count cut → ⊥
none_of_legs many now [] hart count n first each on before at le none leg cut (k, below, is) there = absurd (omega (arith, below))
none_of_legs many now (x ∷ legs) hart count zero first each on before at le none leg cut has there =
    let same : x ≡ first = cc in
    let own : IsLeg many x = All-head (IsLeg many) x legs each in
    let ends : count_at x.ends hart ≡ count_at first.ends hart = ap (λ (l : PlannedLeg). count_at l.ends hart) same in
    elim (here_or_later x legs leg has) [
      | inl is ↦ none cut (subst (λ (l : PlannedLeg). IsCutAt l hart count cut) (sym is ∙ same) there)
      | inr later ↦
          elim (cases_lt count (count_at x.ends hart)) [
            | inl less ↦ later_none many (count_at x.ends) legs hart count (All-tail (IsLeg many) x legs each) on.1 less leg cut later there
            | inr ge ↦
                let eq : count_at first.ends hart ≡ count = omega (arith, ends, ge, le) in
                absurd (none (count_at first.ends) (record { cut = subst (λ (l : PlannedLeg). IsCut (log_of l) (count_at l.ends)) same own.cut; count = eq }))
          ]
    ]
none_of_legs many now (x ∷ legs) hart count (suc n) first each on before at le none leg cut has there =
    let lt = All-head (λ (l : PlannedLeg). count_at l.ends hart < count) x (take n legs) before in
    elim (here_or_later x legs leg has) [
      | inl same ↦
          let most : cut hart ≤ count_at leg.ends hart = there.cut.to_end hart in
          let is = there.count in
          let ends : count_at x.ends hart ≡ count_at leg.ends hart = ap (λ (l : PlannedLeg). count_at l.ends hart) same in
          omega (arith, most, is, ends, lt)
      | inr later ↦
          none_of_legs many (count_at x.ends) legs hart count n first (All-tail (IsLeg many) x legs each) on.1
          (All-tail (λ (l : PlannedLeg). count_at l.ends hart < count) x (take n legs) before) at le none leg cut later there
    ]
