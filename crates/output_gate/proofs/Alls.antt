-- What holds of each of a list.
use Rattle.std.proofs.Common.{◌≡◌, ℕ, zero, suc, ◌+◌, ◌<◌, Bool, true, false, cond, List, [], ◌∷◌, ◌++◌, length, take, get_or, refl, subst, sym, add-one, arith}
use Rattle.std.specs.List.{AllByRecursion, filter}

pub all_so : {X : Type 0} (P Q : X → Type 0) → ((x : X) → P x → Q x) → (xs : List X) → AllByRecursion P xs → AllByRecursion Q xs
all_so P Q f [] h = tt
all_so P Q f (x ∷ xs) h = (f x h.0, all_so P Q f xs h.1)

pub all_both : {X : Type 0} (P Q : X → Type 0) (xs : List X) → AllByRecursion P xs → AllByRecursion Q xs → AllByRecursion (λ x. P x × Q x) xs
all_both P Q [] p q = tt
all_both P Q (x ∷ xs) p q = ((p.0, q.0), all_both P Q xs p.1 q.1)

pub all_join : {X : Type 0} (P : X → Type 0) (xs ys : List X) → AllByRecursion P xs → AllByRecursion P ys → AllByRecursion P (xs ++ ys)
all_join P [] ys a b = b
all_join P (x ∷ xs) ys a b = (a.0, all_join P xs ys a.1 b)

pub all_front : {X : Type 0} (P : X → Type 0) (xs ys : List X) → AllByRecursion P (xs ++ ys) → AllByRecursion P xs
all_front P [] ys h = tt
all_front P (x ∷ xs) ys h = (h.0, all_front P xs ys h.1)

pub all_back : {X : Type 0} (P : X → Type 0) (xs ys : List X) → AllByRecursion P (xs ++ ys) → AllByRecursion P ys
all_back P [] ys h = h
all_back P (x ∷ xs) ys h = all_back P xs ys h.1

pub all_more : {X : Type 0} (P : X → Type 0) (n : ℕ) (xs : List X) → AllByRecursion P (take n xs) → (n < length xs → (d : X) → P (get_or xs n d)) →
    AllByRecursion P (take (n + 1) xs)
all_more {X} P n xs h next = subst (λ (k : ℕ). AllByRecursion P (take k xs)) (sym (add-one n)) (go n xs h next)
  where
    go : (n : ℕ) (xs : List X) → AllByRecursion P (take n xs) → (n < length xs → (d : X) → P (get_or xs n d)) → AllByRecursion P (take (suc n) xs)
    go zero [] h next = tt
    go zero (x ∷ xs) h next = (next (omega arith) x, tt)
    go (suc n) [] h next = tt
    go (suc n) (x ∷ xs) h next = (h.0, go n xs h.1 (λ lt. next (omega arith)))

-- one that passes or not, before others
passed : {X : Type 0} (P : X → Type 0) (x : X) (rest : List X) (b : Bool) → P x → AllByRecursion P rest → AllByRecursion P (cond b (x ∷ rest) rest)
passed P x rest true this h = (this, h)
passed P x rest false this h = h

-- what holds of each holds of each that passes
pub all_filter : {X : Type 0} (P : X → Type 0) (p : X → Bool) (xs : List X) → AllByRecursion P xs → AllByRecursion P (filter p xs)
all_filter P p [] h = tt
all_filter P p (x ∷ xs) h = passed P x (filter p xs) (p x) h.0 (all_filter P p xs h.1)

pass_one : {X : Type 0} (p : X → Bool) (x : X) (rest : List X) (b : Bool) → p x ≡ b → AllByRecursion (λ o. p o ≡ true) rest → AllByRecursion (λ o. p o ≡ true)
    (cond b (x ∷ rest) rest)
pass_one p x rest true e h = (e, h)
pass_one p x rest false e h = h

-- what is kept passes
pub kept_pass : {X : Type 0} (p : X → Bool) (xs : List X) → AllByRecursion (λ o. p o ≡ true) (filter p xs)
kept_pass p [] = tt
kept_pass p (x ∷ xs) = pass_one p x (filter p xs) (p x) refl (kept_pass p xs)
