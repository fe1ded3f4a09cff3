-- Schedules of two logs that agree as far as a cut.
use Rattle.std.proofs.Common.{◌≡◌, ℕ, ◌<◌, ◌≤◌, List, [], ◌∷◌, Contains, refl, ap, ◌∙◌, arith, le_trans}
use Rattle.interleaving.specs.Lists.{IsWithin}
use Rattle.interleaving.specs.Log.{Edge, Begins, bump, turns_of}
use Rattle.interleaving.proofs.Put.{bump_le}

-- where the first log's edges between start and cut are among the second's
pub begins_too : (first second : List Edge) (start cut : ℕ → ℕ) →
    ((e : Edge) → Contains first e → start e.hart ≤ e.step → e.step < cut e.hart → Contains second e) → (order : List ℕ) (now : ℕ → ℕ) → IsWithin start now →
    Begins second cut now order → Begins first cut now order
begins_too first second start cut among [] now from begins = tt
begins_too first second start cut among (hart ∷ order) now from ((less, met), rest) = (
  (
    less,
    λ e has own at.
        let here : now e.hart ≡ now hart = ap now own in
        let below : cut e.hart ≡ cut hart = ap cut own in
        let low : start e.hart ≤ now e.hart = from e.hart in
        met e (among e has (omega arith) (omega arith)) own at,
  ),
  begins_too first second start cut among order (bump now hart) (λ i. le_trans (from i) (bump_le now hart i)) rest,
)

-- where the inputs agree between start and cut
pub same_turns : {Input : Type 0} (first second : ℕ → ℕ → Input) (edges : List Edge) (start cut : ℕ → ℕ) →
    ((hart count : ℕ) → start hart ≤ count → count < cut hart → first hart count ≡ second hart count) → (order : List ℕ) (now : ℕ → ℕ) → IsWithin start now →
    Begins edges cut now order → turns_of first now order ≡ turns_of second now order
same_turns first second edges start cut same [] now from begins = refl
same_turns first second edges start cut same (hart ∷ order) now from ((less, met), rest) =
    ap (λ input. record { hart = hart; input = input } ∷ turns_of first (bump now hart) order) (same hart (now hart) (from hart) less) ∙
    ap (λ turns. record { hart = hart; input = second hart (now hart) } ∷ turns)
    (same_turns first second edges start cut same order (bump now hart) (λ i. le_trans (from i) (bump_le now hart i)) rest)
