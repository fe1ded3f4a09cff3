-- A lease that is not full has rung nobody.
use Rattle.std.proofs.Common.{◌≡◌, ◌≢◌, inr, ℕ, Bool, true, false, true≢false, List, refl, sym, ◌∙◌}
use Rattle.std.specs.Prelude.{nat_eq}
use Rattle.std.specs.Cmp.Lexicographic.{pointwise}
use Rattle.std.proofs.lemmas.Slice.Eq.{bytes_eq-Decides}
use Rattle.hart_lease.specs.Leases.{LeaseView, IsFull}

list_stable : (xs ys : List ℕ) → (xs ≢ ys → ⊥) → xs ≡ ys
list_stable xs ys h = of (pointwise nat_eq xs ys) refl
  where
    of : (b : Bool) → pointwise nat_eq xs ys ≡ b → xs ≡ ys
    of true e = (bytes_eq-Decides xs ys).0 e
    of false e = absurd (h (λ same. true≢false (sym ((bytes_eq-Decides xs ys).1 same) ∙ e)))

pub quiet_so_far : (l : LeaseView) → (IsFull l → ⊥) → l.present.rung ≡ l.base.rung
quiet_so_far l not_full = list_stable l.present.rung l.base.rung (λ ne. not_full (inr (inr (inr ne))))
