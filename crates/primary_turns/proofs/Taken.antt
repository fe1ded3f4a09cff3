-- Rows that are gone through from their fronts.
use Rattle.std.proofs.Common.{◌≡◌, ◌<◌, ◌+◌, ◌++◌, ◌∷◌, [], ℕ, List, map, length, take, slice_index_or, ap, sym, ◌∙◌}
use Rattle.std.proofs.lemmas.List.{take_more, length-map, get_or-map}

-- what is made of the first ones and of the next one
pub taken_more : {X Y : Type 0} (f : X → Y) (xs : List X) (i : ℕ) (x : X) → i < length xs → x ≡ slice_index_or xs i x →
    take (i + 1) (map f xs) ≡ take i (map f xs) ++ f x ∷ []
taken_more f xs i x within is =
    take_more (map f xs) i (f x) (rw length-map within) ∙ ap (λ y. take i (map f xs) ++ y ∷ []) (get_or-map f xs i x (f x) within ∙ ap f (sym is))
