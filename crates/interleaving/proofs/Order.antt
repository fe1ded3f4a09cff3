-- Closed cuts, what is met, and what is before a step.
use Rattle.std.proofs.Common.{◌≡◌, ◌≢◌, ◌⊎◌, inl, inr, ℕ, ◌+◌, ◌<◌, ◌≤◌, List, sym, ap, subst, ◌∙◌, arith, le_trans}
use Rattle.interleaving.specs.Machine.{Step}
use Rattle.interleaving.specs.Log.{Edge, Place, Before, Own, Across, Through, IsClosed, IsMet, EachMet, bump}
use Rattle.interleaving.proofs.Put.{same_or_not, put_same, bump_other, bump_le, bump_swap}
use Rattle.interleaving.proofs.Removal.{Pulled, Here, There}

-- what is before a step inside a closed cut is inside it
pub before_inside : (edges : List Edge) (cut : ℕ → ℕ) → IsClosed edges cut → {a b : Place} → Before edges a b →
    b.step < cut b.hart → a.step < cut a.hart
before_inside edges cut closed (Own {a = a} {b = b} same less) h =
    let e : cut a.hart ≡ cut b.hart = ap cut same in omega arith
before_inside edges cut closed (Across {a = a} {b = b} e is_edge other less hart from) h =
    let f : cut b.hart ≡ cut e.hart = ap cut hart in
    let g : cut a.hart ≡ cut e.other = ap cut other in
    let below : e.step < cut e.hart = omega arith in
    let met : e.count ≤ cut e.other = closed e is_edge below in
    omega arith
before_inside edges cut closed (Through p q) h = before_inside edges cut closed p (before_inside edges cut closed q h)

-- a cut stays closed where a step whose edges are met joins it
pub bump_closed : (edges : List Edge) (now : ℕ → ℕ) (hart : ℕ) → IsClosed edges now → IsMet edges now hart →
    IsClosed edges (bump now hart)
bump_closed edges now hart closed met e is_edge below =
    le_trans (either (same_or_not hart e.hart)) (bump_le now hart e.other)
  where
    was : (hart ≡ e.hart) → (e.step < now e.hart) ⊎ (e.step ≡ now e.hart)
    was same =
        let f : bump now hart e.hart ≡ now hart + 1 = put_same now hart e.hart (now hart + 1) same in
        let g : now hart ≡ now e.hart = ap now same in
        grind arith

    last : (hart ≡ e.hart) → (e.step < now e.hart) ⊎ (e.step ≡ now e.hart) → e.count ≤ now e.other
    last same (inl less) = closed e is_edge less
    last same (inr at) = met e is_edge (sym same) (at ∙ ap now (sym same))

    either : (hart ≡ e.hart) ⊎ (hart ≢ e.hart) → e.count ≤ now e.other
    either (inl same) = last same (was same)
    either (inr ne) =
        let f : bump now hart e.hart ≡ now e.hart = bump_other now hart e.hart ne in closed e is_edge (omega arith)

-- a step's edges stay met while others go
pub bump_met : (edges : List Edge) (now : ℕ → ℕ) (other hart : ℕ) → other ≢ hart → IsMet edges now hart →
    IsMet edges (bump now other) hart
bump_met edges now other hart ne met e is_edge here at =
    le_trans (met e is_edge here (at ∙ bump_other now other hart ne)) (bump_le now other e.other)

pub pulled_met : {Hart Page Input : Type 0} (edges : List Edge) (t : Step Hart Page Input)
    {all left : List (Step Hart Page Input)} →
    Pulled t all left → (now : ℕ → ℕ) → EachMet edges now all → EachMet edges (bump now t.hart) left
pulled_met edges t Here now h = h.1
pulled_met edges t (There {s = s} {left = left} apart p) now h = (
  bump_met edges now t.hart s.hart (λ e. apart.harts (sym e)) h.0,
  subst (λ n. EachMet edges n left) (bump_swap now s.hart t.hart apart.harts)
      (pulled_met edges t p (bump now s.hart) h.1),
)
