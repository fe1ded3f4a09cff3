-- Joins of honest stores, and of the stores of chosen keepers; two majorities share one.
use Rattle.std.proofs.Common.{◌≡◌, ◌⊎◌, inl, inr, ℕ, zero, suc, ◌+◌, ◌<◌, ◌≤◌, Bool, true, false, cond, List, [], ◌∷◌, filter, nat_lt, Option, Some, None, refl, sym, ap, subst, ◌∙◌, arith, lt-ltb}
use Rattle.log_join.specs.Families.{Past, HonestStore}
use Rattle.log_join.specs.FamilyLaws.{IsHonestJoin}
use Rattle.std.specs.Prelude.{slice_get}
use Rattle.std.proofs.lemmas.Bool.{cases_lt}
use Rattle.interleaving.specs.Lists.{Each, EachPair}
use Rattle.ft_types.specs.Guests.{GuestParts}
use Rattle.log_join.specs.Stores.{StoreView, IsJoin}
use Rattle.log_join.proofs.Families.{joins_honest, honest_nothing}
use Rattle.fenced_theory.specs.Lists.{how_many}
use Rattle.fenced_theory.specs.Recorders.{Output}
use Rattle.fenced_theory.specs.Worlds.{Joined, NoneYet, Skip, Take, HasGiven}
use Rattle.fenced_theory.proofs.Growing.{below_trans, some_same}

pub see : {A : Type 0} (a : Option A) → (a ≡ None) ⊎ ((x : A) × (a ≡ Some x))
see None = inl refl
see (Some x) = inr (x, refl)

pub see_bool : (b : Bool) → (b ≡ true) ⊎ (b ≡ false)
see_bool true = inl refl
see_bool false = inr refl

-- each store is of the guest
abbrev pub AreOf : GuestParts → (ℕ → Option StoreView) → Type 0
AreOf guest stores = (keeper : ℕ) (s : StoreView) → stores keeper ≡ Some s → s.guest ≡ guest

module _ {Book : Type 0} (terms : ℕ → Option (Past Book)) where
  pub honest_join : (s r c : StoreView) → HonestStore terms s → HonestStore terms r → IsJoin s r c → IsHonestJoin terms s r c
  honest_join s r c hs hr j = joins_honest _ terms s r c hs hr j

  -- each keeper's store, where it has one, is honest
  abbrev pub HonestStores : (ℕ → Option StoreView) → Type 0
  HonestStores stores = (keeper : ℕ) (s : StoreView) → stores keeper ≡ Some s → HonestStore terms s

  -- a join of honest stores of the guest has what each of the chosen ones has
  pub honest_joined : (guest : GuestParts) (stores : ℕ → Option StoreView) (chosen : ℕ → Bool) → HonestStores stores → AreOf guest stores → {n : ℕ}
      {all : StoreView} → Joined guest stores chosen n all → HasGiven guest terms stores chosen n all
  honest_joined guest stores chosen honest each NoneYet =
      record { of_guest = refl; honest = honest_nothing terms guest; has = λ keeper less is. absurd (omega arith) }
  honest_joined guest stores chosen honest each (Skip {n = n} {s = s} miss j) =
      let rest = honest_joined guest stores chosen honest each j in
      record {
        of_guest = rest.of_guest;
        honest = rest.honest;
        has =
            λ keeper less is.
            elim (cases_lt keeper n) [
              | inl before ↦ rest.has keeper before is
              | inr last ↦ let k : keeper ≡ n = omega arith in let c : true ≡ false = sym is ∙ (ap chosen k ∙ miss) in cc
            ];
      }
  honest_joined guest stores chosen honest each (Take {n = n} {s = s} {t = t} r hit there j join) =
      let rest = honest_joined guest stores chosen honest each j in
      let both = honest_join r s t (honest n r there) rest.honest join in
      record {
        of_guest = join.guest ∙ each n r there;
        honest = both.honest;
        has =
            λ keeper less is.
            elim (cases_lt keeper n) [
              | inl before ↦ let (a, at, below) = rest.has keeper before is in (a, at, below_trans below both.right)
              | inr last ↦ let k : keeper ≡ n = omega arith in (r, ap stores k ∙ there, both.left)
            ];
      }

-- where each that is chosen is chosen there too, no fewer are
pub more_chosen : (n : ℕ) (f g : ℕ → Bool) → ((k : ℕ) → f k ≡ true → g k ≡ true) → how_many n f ≤ how_many n g
more_chosen zero f g also = omega arith
more_chosen (suc n) f g also = by (f n) refl (g n) refl (more_chosen n f g also)
  where
    by : (a : Bool) → f n ≡ a → (b : Bool) → g n ≡ b → how_many n f ≤ how_many n g → cond a 1 0 + how_many n f ≤ cond b 1 0 + how_many n g
    by true e true d le = omega (arith, le)
    by true e false d le = let no : true ≡ false = sym (also n e) ∙ d in cc
    by false e true d le = omega (arith, le)
    by false e false d le = omega (arith, le)

-- two sets that together have more than n of the numbers below n share one
pub shared : (n : ℕ) (f g : ℕ → Bool) → n < how_many n f + how_many n g → (k : ℕ) × (k < n) × (f k ≡ true) × (g k ≡ true)
shared zero f g h = absurd (omega arith)
shared (suc n) f g h = by (shared n f g) (f n) refl (g n) refl
  where
    wider : (k : ℕ) × (k < n) × (f k ≡ true) × (g k ≡ true) → (k : ℕ) × (k < suc n) × (f k ≡ true) × (g k ≡ true)
    wider (k, less, a, b) = (k, omega arith, a, b)

    by : (n < how_many n f + how_many n g → (k : ℕ) × (k < n) × (f k ≡ true) × (g k ≡ true)) → (a : Bool) → f n ≡ a → (b : Bool) → g n ≡ b →
        (k : ℕ) × (k < suc n) × (f k ≡ true) × (g k ≡ true)
    by rec true e true d = (n, omega arith, e, d)
    by rec true e false d =
        let m : suc n < (cond true 1 0 + how_many n f) + (cond false 1 0 + how_many n g) =
        subst (λ b. suc n < (cond true 1 0 + how_many n f) + (cond b 1 0 + how_many n g)) d
        (subst (λ a. suc n < (cond a 1 0 + how_many n f) + (cond (g n) 1 0 + how_many n g)) e h) in
        wider (rec (omega arith))
    by rec false e true d =
        let m : suc n < (cond false 1 0 + how_many n f) + (cond true 1 0 + how_many n g) =
        subst (λ b. suc n < (cond false 1 0 + how_many n f) + (cond b 1 0 + how_many n g)) d
        (subst (λ a. suc n < (cond a 1 0 + how_many n f) + (cond (g n) 1 0 + how_many n g)) e h) in
        wider (rec (omega arith))
    by rec false e false d =
        let m : suc n < (cond false 1 0 + how_many n f) + (cond false 1 0 + how_many n g) =
        subst (λ b. suc n < (cond false 1 0 + how_many n f) + (cond b 1 0 + how_many n g)) d
        (subst (λ a. suc n < (cond a 1 0 + how_many n f) + (cond (g n) 1 0 + how_many n g)) e h) in
        wider (rec (omega arith))

each_nth : {A : Type 0} (P : A → Type 0) (xs : List A) (i : ℕ) (x : A) → Each P xs → slice_get xs i ≡ Some x → P x
each_nth P [] i x e is = cc
each_nth P (y ∷ xs) zero x e is = subst P (some_same refl is) e.0
each_nth P (y ∷ xs) (suc i) x e is = each_nth P xs i x e.1 is

-- an output below the cut keeps its number
pub below_cut : (xs : List Output) (cut number : ℕ) (o : Output) → EachPair (λ o p. o.step < p.step) xs → slice_get xs number ≡ Some o → o.step < cut →
    slice_get (filter (λ o. nat_lt o.step cut) xs) number ≡ Some o
below_cut [] cut number o rising is below = cc
below_cut (x ∷ xs) cut zero o rising is below =
    let e : x ≡ o = some_same refl is in
    let f : x.step ≡ o.step = ap (λ o. o.step) e in
    let less : x.step < cut = omega arith in
    rw (lt-ltb x.step cut less) is
below_cut (x ∷ xs) cut (suc number) o rising is below =
    let f : x.step < o.step = each_nth (λ p. x.step < p.step) xs number o rising.0 is in
    let less : x.step < cut = omega arith in
    rw (lt-ltb x.step cut less) (below_cut xs cut number o rising.1 is below)
