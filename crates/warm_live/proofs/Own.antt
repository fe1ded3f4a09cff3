-- A store of one's own, before those of others.
use Rattle.std.proofs.Common.{◌<◌, ◌≤◌, ℕ, zero, suc, List, ◌∷◌, refl, subst, arith, inl, inr}
use Rattle.std.specs.Prelude.{All}
use Rattle.std.specs.List.{Any}
use Rattle.std.proofs.lemmas.List.Elements.{All-cons}
use Rattle.log_join.specs.Stores.{StoreView, IsLastTerm}
use Rattle.go_live.specs.Quorums.{HasTerm, IsNew, IsOld}
use Rattle.go_live.proofs.Newness.{is_later, is_earlier}

-- what holds of some of the others
pub any_other : {X : Type 0} (P : X → Type 0) (x : X) (xs : List X) → Any P xs → Any P (x ∷ xs)
any_other P x xs (k, y, within, is, holds) = (suc k, y, omega (arith, within), is, holds)

-- what holds of each is not refuted by one
pub never_any : {X : Type 0} (P : X → Type 0) (xs : List X) → All P xs → Any (λ x. P x → ⊥) xs → ⊥
never_any P xs all (k, y, within, is, fails) = fails (subst P is (all k y within))

-- a term that is not later than all of one's own
pub old_here : (own : StoreView) (stores : List StoreView) (last term : ℕ) → IsLastTerm own last → term ≤ last → IsOld (own ∷ stores) term
old_here own stores last zero is within = inl refl
old_here own stores last (suc n) is within = inr (0, own, omega arith, refl, is_earlier own last (suc n) is (omega arith) within)

pub old_there : (own : StoreView) (stores : List StoreView) (term : ℕ) → IsOld stores term → IsOld (own ∷ stores) term
old_there own stores term (inl none) = inl none
old_there own stores term (inr any) = inr (any_other (λ store. (other : ℕ) × (term ≤ other) × HasTerm store other) own stores any)

-- and one that is later than all
pub new_here : (own : StoreView) (stores : List StoreView) (last term : ℕ) → IsLastTerm own last → last < term → IsNew stores term → IsNew (own ∷ stores) term
new_here own stores last term is less new = record {
  granted = new.granted;
  later = All-cons (λ store. (other : ℕ) → HasTerm store other → other < term) own stores (is_later own last term is less) new.later;
}
