-- Facts on given edges, decided by computing.
use Rattle.std.proofs.Common.{◌≡◌, ◌≢◌, inl, inr, ℕ, ◌==◌, ◌&&◌, ◌<◌, ◌≤◌, Bool, true, false, cond, not, List, [], ◌∷◌, nat_lt, sym, ◌∙◌, refl, eq-eqb, lt-ltb}
use Rattle.std.proofs.Common.{le-ltb, true≢false}
use Rattle.std.proofs.lemmas.Bool.{cases_lt}
use Rattle.interleaving.specs.Lists.{Each}
use Rattle.interleaving.specs.Machine.{Step}
use Rattle.interleaving.specs.Log.{Edge, IsClosed, IsMet, EachMet, Begins, counts_after, bump}
use Rattle.interleaving.proofs.Put.{bump_other}
use Rattle.interleaving.proofs.Each.{each_at}

both_true : (b c : Bool) → (b && c) ≡ true → (b ≡ true) × (c ≡ true)
both_true true c h = (refl, h)
both_true false c h = absurd (true≢false (sym h))

less_true : (a b : ℕ) → nat_lt a b ≡ true → a < b
less_true a b h = elim (cases_lt a b) [ inl less ↦ less | inr over ↦ absurd (true≢false (sym h ∙ le-ltb a b over)) ]

-- where the first holds, the second is at most the third
abbrev holds : Bool → ℕ → ℕ → Bool
holds b low high = cond b (not (nat_lt high low)) true

holds_le : (b : Bool) (low high : ℕ) → holds b low high ≡ true → b ≡ true → low ≤ high
holds_le true low high h is =
    elim (cases_lt high low) [
      | inl less ↦ absurd
          (not_true (nat_lt high low) h (lt-ltb high low less))
      | inr fine ↦ fine
    ]
  where
    not_true : (b : Bool) → not b ≡ true → b ≡ true → ⊥
    not_true true h is = true≢false (sym h)
    not_true false h is = true≢false (sym is)
holds_le false low high h is = absurd (true≢false (sym is))

abbrev closed_at : List Edge → (ℕ → ℕ) → Bool
closed_at [] cut = true
closed_at (e ∷ edges) cut = holds (nat_lt e.step (cut e.hart)) e.count (cut e.other) && closed_at edges cut

pub closed_by : (edges : List Edge) (cut : ℕ → ℕ) → closed_at edges cut ≡ true → IsClosed edges cut
closed_by edges cut h e = each_at (λ e. e.step < cut e.hart → e.count ≤ cut e.other) edges e (each edges h)
  where
    each : (es : List Edge) → closed_at es cut ≡ true → Each (λ e. e.step < cut e.hart → e.count ≤ cut e.other) es
    each [] h = tt
    each (e ∷ es) h =
        let b = both_true (holds (nat_lt e.step (cut e.hart)) e.count (cut e.other)) (closed_at es cut) h in (
          (λ less. holds_le (nat_lt e.step (cut e.hart)) e.count (cut e.other) b.0
              (lt-ltb e.step (cut e.hart) less)),
          each es b.1,
        )

abbrev met_at : List Edge → (ℕ → ℕ) → ℕ → Bool
met_at [] now hart = true
met_at (e ∷ edges) now hart =
    holds (e.hart == hart && e.step == now hart) e.count (now e.other) && met_at edges now hart

met_by : (edges : List Edge) (now : ℕ → ℕ) (hart : ℕ) → met_at edges now hart ≡ true → IsMet edges now hart
met_by edges now hart h e =
    each_at (λ e. e.hart ≡ hart → e.step ≡ now hart → e.count ≤ now e.other) edges e (each edges h)
  where
    each : (es : List Edge) → met_at es now hart ≡ true →
        Each (λ e. e.hart ≡ hart → e.step ≡ now hart → e.count ≤ now e.other) es
    each [] h = tt
    each (e ∷ es) h =
        let b =
        both_true (holds (e.hart == hart && e.step == now hart) e.count (now e.other)) (met_at es now hart) h in (
          λ here stands.
              holds_le (e.hart == hart && e.step == now hart) e.count (now e.other) b.0
              (rw (eq-eqb e.hart hart here, eq-eqb e.step (now hart) stands) refl),
          each es b.1,
        )

abbrev each_met_at : {Hart Page Input : Type 0} → List Edge → (ℕ → ℕ) → List (Step Hart Page Input) → Bool
each_met_at edges now [] = true
each_met_at edges now (s ∷ rest) = met_at edges now s.hart && each_met_at edges (bump now s.hart) rest

pub each_met_by : {Hart Page Input : Type 0} (edges : List Edge) (now : ℕ → ℕ) (xs : List (Step Hart Page Input)) →
    each_met_at edges now xs ≡ true → EachMet edges now xs
each_met_by edges now [] h = tt
each_met_by edges now (s ∷ rest) h =
    let b = both_true (met_at edges now s.hart) (each_met_at edges (bump now s.hart) rest) h in
    (met_by edges now s.hart b.0, each_met_by edges (bump now s.hart) rest b.1)

abbrev begins_at : List Edge → (ℕ → ℕ) → (ℕ → ℕ) → List ℕ → Bool
begins_at edges cut now [] = true
begins_at edges cut now (hart ∷ rest) =
    (nat_lt (now hart) (cut hart) && met_at edges now hart) && begins_at edges cut (bump now hart) rest

pub begins_by : (edges : List Edge) (cut now : ℕ → ℕ) (order : List ℕ) → begins_at edges cut now order ≡ true →
    Begins edges cut now order
begins_by edges cut now [] h = tt
begins_by edges cut now (hart ∷ rest) h =
    let b =
    both_true (nat_lt (now hart) (cut hart) && met_at edges now hart) (begins_at edges cut (bump now hart) rest) h in
    let c = both_true (nat_lt (now hart) (cut hart)) (met_at edges now hart) b.0 in
    ((less_true (now hart) (cut hart) c.0, met_by edges now hart c.1), begins_by edges cut (bump now hart) rest b.1)

-- a hart that does not go keeps its count
pub counts_after_absent : (now : ℕ → ℕ) (order : List ℕ) (hart : ℕ) → Each (λ next. next ≢ hart) order →
    counts_after now order hart ≡ now hart
counts_after_absent now [] hart absent = refl
counts_after_absent now (next ∷ order) hart absent =
    counts_after_absent (bump now next) order hart absent.1 ∙ bump_other now next hart absent.0
