-- Points that were looked at one after another.
use Rattle.std.proofs.Common.{◌+◌, ◌<◌, ◌≤◌, ◌∷◌, [], ℕ, List, All, length, take, slice_index_or, sym, subst}
use Rattle.std.proofs.lemmas.List.{take_all, get_or_default}
use Rattle.std.proofs.lemmas.List.Elements.{All-append, All-from_recursion}
use Rattle.log_audit.proofs.Lists.{get_at, take_more}
use Rattle.moments.specs.declared.points.Point.{Point}

-- one more, of which it does not hold either
pub none_more : (P : Point → Type 0) (points : List Point) (n : ℕ) (d : Point) → n < length points → (P (slice_index_or points n d) → ⊥) →
    All (λ p. P p → ⊥) (take n points) → All (λ p. P p → ⊥) (take (n + 1) points)
none_more P points n d lt not so_far =
    let at = get_at points n (slice_index_or points n d) (get_or_default points n d (slice_index_or points n d) lt) lt in
    subst (λ (l : List Point). All (λ p. P p → ⊥) l) (sym (take_more points n (slice_index_or points n d) at))
    (All-append (λ p. P p → ⊥) (take n points) (slice_index_or points n d ∷ []) so_far
    (All-from_recursion (λ p. P p → ⊥) (slice_index_or points n d ∷ []) (not, tt)))

pub none_of_all : (P : Point → Type 0) (points : List Point) (n : ℕ) → length points ≤ n → All (λ p. P p → ⊥) (take n points) → All (λ p. P p → ⊥) points
none_of_all P points n le = subst (λ (l : List Point). All (λ p. P p → ⊥) l) (take_all n points le)
