-- What a lease took of its pages, beyond the last of them.
use Rattle.std.proofs.Common.{◌≡◌, ℕ, zero, suc, ◌≤◌, List, [], ◌∷◌, length, slice_set, Option, None, refl, ap, arith}
use Rattle.hart_lease.specs.declared.taken.Taken.{Taken}
use Rattle.hart_lease.specs.Taken.{taken_at}

pub set_beyond : (taken : List (Option Taken)) (page : ℕ) (new : Option Taken) → length taken ≤ page → slice_set taken page new ≡ taken
set_beyond [] page new le = refl
set_beyond (t ∷ taken) zero new le = absurd (omega arith)
set_beyond (t ∷ taken) (suc page) new le = ap (λ l. t ∷ l) (set_beyond taken page new (omega arith))

pub none_beyond : (taken : List (Option Taken)) (page : ℕ) → length taken ≤ page → taken_at taken page ≡ None
none_beyond [] page le = refl
none_beyond (t ∷ taken) zero le = absurd (omega arith)
none_beyond (t ∷ taken) (suc page) le = none_beyond taken page (omega arith)
