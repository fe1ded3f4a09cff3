-- Parts of whole machines.
use Rattle.std.proofs.Common.{◌≡◌, ℕ, zero, suc, ◌+◌, ◌<◌, List, [], ◌∷◌, length, slice_get, slice_index_or, Some, false, true, replicate, ap, sym, ◌∙◌, arith}
use Rattle.std.specs.List.{AllByRecursion}
use Rattle.rv32_hart.specs.Hart.{Hart}
use Rattle.guest_image.specs.Machine.{AreInPlace}

pub whole_pages : (pages : List (List ℕ)) → AllByRecursion (λ page. length page ≡ 4096) pages → (page : ℕ) → page < length pages →
    length (slice_index_or pages page []) ≡ 4096
whole_pages [] all page lt = absurd (omega arith)
whole_pages (p ∷ pages) all zero lt = all.0
whole_pages (p ∷ pages) all (suc page) lt = whole_pages pages all.1 page (omega arith)

pub no_right : (n page : ℕ) → slice_index_or (replicate n false) page false ≡ true → ⊥
no_right zero page e = cc
no_right (suc n) zero e = cc
no_right (suc n) (suc page) e = no_right n page e

pub in_place : (harts place i : ℕ) (hs : List Hart) (h : Hart) → AreInPlace harts place hs → slice_get hs i ≡ Some h → (h.number ≡ place + i) × (h.harts ≡ harts)
in_place harts place i [] h p e = cc
in_place harts place zero (x ∷ hs) h p e =
    let same : x ≡ h = cc in (ap (λ k. k.number) (sym same) ∙ (p.0 ∙ omega arith), ap (λ k. k.harts) (sym same) ∙ p.1)
in_place harts place (suc i) (x ∷ hs) h p e = let (number, all) = in_place harts (place + 1) i hs h p.2 e in (number ∙ omega arith, all)
