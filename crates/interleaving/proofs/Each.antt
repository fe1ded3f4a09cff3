-- What holds of each element of a list, and of each pair.
use Rattle.std.proofs.Common.{inl, inr, List, [], ◌∷◌, ◌++◌, Contains, subst, arith}
use Rattle.std.proofs.lemmas.List.Elements.{Contains-append_right}
use Rattle.interleaving.specs.Lists.{Each, EachPair}
use Rattle.interleaving.proofs.Cuts.{here_or_later, here}

-- it holds of an element
pub each_at : {A : Type 0} (P : A → Type 0) (xs : List A) (x : A) → Each P xs → Contains xs x → P x
each_at P [] x all (k, below, is) = absurd (omega arith)
each_at P (y ∷ xs) x all h =
    elim (here_or_later y xs x h) [ inl is ↦ subst P is all.0 | inr later ↦ each_at P xs x all.1 later ]

-- what holds of every element holds of each
pub each_from : {A : Type 0} (P : A → Type 0) (xs : List A) → ((x : A) → Contains xs x → P x) → Each P xs
each_from P [] h = tt
each_from P (x ∷ xs) h =
    (h x (here x xs), each_from P xs (λ y later. h y (Contains-append_right (x ∷ []) xs y later)))

pub each_append : {A : Type 0} (P : A → Type 0) (xs ys : List A) → Each P xs → Each P ys → Each P (xs ++ ys)
each_append P [] ys h k = k
each_append P (x ∷ xs) ys h k = (h.0, each_append P xs ys h.1 k)

-- what follows from it
pub each_more : {A : Type 0} (P Q : A → Type 0) → ((x : A) → P x → Q x) → (xs : List A) → Each P xs → Each Q xs
each_more P Q f [] h = tt
each_more P Q f (x ∷ xs) h = (f x h.0, each_more P Q f xs h.1)

pub each_both : {A : Type 0} (P Q : A → Type 0) (xs : List A) → Each P xs → Each Q xs → Each (λ x. P x × Q x) xs
each_both P Q [] p q = tt
each_both P Q (x ∷ xs) p q = ((p.0, q.0), each_both P Q xs p.1 q.1)

pub pairs_append : {A : Type 0} (R : A → A → Type 0) (xs ys : List A) → EachPair R xs → EachPair R ys →
    ((x y : A) → Contains xs x → Contains ys y → R x y) → EachPair R (xs ++ ys)
pairs_append R [] ys h k across = k
pairs_append R (x ∷ xs) ys h k across = (
  each_append (R x) xs ys h.0 (each_from (R x) ys (λ y later. across x y (here x xs) later)),
  pairs_append R xs ys h.1 k (λ x₁ y in_xs. across x₁ y (Contains-append_right (x ∷ []) xs x₁ in_xs)),
)

pub pairs_more : {A : Type 0} (P Q : A → A → Type 0) → ((x y : A) → P x y → Q x y) → (xs : List A) →
    EachPair P xs → EachPair Q xs
pairs_more P Q f [] h = tt
pairs_more P Q f (x ∷ xs) h = (each_more (P x) (Q x) (f x) xs h.0, pairs_more P Q f xs h.1)
