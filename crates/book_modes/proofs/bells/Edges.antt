-- The edges of bells, one after the other.
use Rattle.std.proofs.Common.{◌≡◌, ◌≢◌, ◌==◌, eq-eqb, ne_eqb, ℕ, ◌+◌, ◌<◌, ◌≤◌, Bool, true, false, List, [], ◌∷◌, ◌++◌, length, take, get_or, if◌then◌else◌}
use Rattle.std.proofs.Common.{refl, ap, ◌∙◌, arith}
use Rattle.std.proofs.lemmas.List.{take_more}
use Rattle.input_log.specs.declared.WaitingBell.{WaitingBell}
use Rattle.edge_log.specs.declared.Edge.{Edge}
use Rattle.book_modes.specs.Dues.{bell_edges}

-- no more than bells
pub few_edges : (hart count : ℕ) (bells : List WaitingBell) → length (bell_edges hart count bells) ≤ length bells
few_edges hart count [] = omega arith
few_edges hart count (b ∷ bells) = of (b.source == hart) (few_edges hart count bells)
  where
    of : (own : Bool) → length (bell_edges hart count bells) ≤ length bells →
        length (if own then bell_edges hart count bells else record { hart = hart; at = count; other = b.source; after = b.after } ∷ bell_edges hart count
        bells) ≤ length (b ∷ bells)
    of true le = omega (arith, le)
    of false le = omega (arith, le)

bell_edges-append : (hart count : ℕ) (front rest : List WaitingBell) → bell_edges hart count (front ++ rest) ≡ bell_edges hart count front ++
    bell_edges hart count rest
bell_edges-append hart count [] rest = refl
bell_edges-append hart count (b ∷ front) rest = of (b.source == hart) (bell_edges-append hart count front rest)
  where
    its : Edge
    its = record { hart = hart; at = count; other = b.source; after = b.after }

    of : (own : Bool) → bell_edges hart count (front ++ rest) ≡ bell_edges hart count front ++ bell_edges hart count rest →
        (if own then bell_edges hart count (front ++ rest) else its ∷ bell_edges hart count (front ++ rest)) ≡
        (if own then bell_edges hart count front else its ∷ bell_edges hart count front) ++ bell_edges hart count rest
    of true e = e
    of false e = ap (λ es. its ∷ es) e

-- one bell more
pub one_more_bell : (hart count : ℕ) (bells : List WaitingBell) (k : ℕ) (d : WaitingBell) → k < length bells →
    bell_edges hart count (take (k + 1) bells) ≡ bell_edges hart count (take k bells) ++ bell_edges hart count (get_or bells k d ∷ [])
one_more_bell hart count bells k d lt = ap (bell_edges hart count) (take_more bells k d lt) ∙ bell_edges-append hart count (take k bells)
    (get_or bells k d ∷ [])

-- a hart's own bell has no edge, and another's has one
pub own_bell : (hart count : ℕ) (b : WaitingBell) → b.source ≡ hart → bell_edges hart count (b ∷ []) ≡ []
own_bell hart count b same = rw (eq-eqb b.source hart same) refl

pub other_bell : (hart count : ℕ) (b : WaitingBell) → b.source ≢ hart →
    bell_edges hart count (b ∷ []) ≡ record { hart = hart; at = count; other = b.source; after = b.after } ∷ []
other_bell hart count b ne = rw (ne_eqb b.source hart ne) refl
