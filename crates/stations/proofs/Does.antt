-- Acts, one behind the other.
use Rattle.std.proofs.Common.{List, [], ◌∷◌, ◌++◌, subst, append_assoc}
use Rattle.stations.specs.Acts.{Does}

pub does_then : {A : Type 0} (a b c : List A → Type 0) (xs ys : List A) → Does a b xs → Does b c ys → Does a c (xs ++ ys)
does_then a b c xs ys p q = λ done t. subst c (append_assoc done xs ys) (q (done ++ xs) (p done t))

pub does_two : {A : Type 0} (a b c : List A → Type 0) (x y : A) → Does a b (x ∷ []) → Does b c (y ∷ []) → Does a c (x ∷ y ∷ [])
does_two a b c x y p q = does_then a b c (x ∷ []) (y ∷ []) p q

pub does_three : {A : Type 0} (a b c d : List A → Type 0) (x y z : A) → Does a b (x ∷ []) → Does b c (y ∷ []) → Does c d (z ∷ []) →
    Does a d (x ∷ y ∷ z ∷ [])
does_three a b c d x y z p q r = does_then a c d (x ∷ y ∷ []) (z ∷ []) (does_two a b c x y p q) r
