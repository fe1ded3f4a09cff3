-- Rows that are gone through from their fronts.
use Rattle.std.proofs.Common.{◌≡◌, ◌<◌, ◌+◌, ◌++◌, ◌∷◌, [], ℕ, List, map, length, take, slice_index_or, ap, sym, ◌∙◌}
use Rattle.std.proofs.lemmas.List.{map-append}
use Rattle.primary_turns.proofs.Taken.{taken_more}

-- of two rows that go side by side so far, one more
pub both_more : {A X Y : Type 0} (g : A → Y) (f : X → Y) (old new : List A) (a : A) (xs : List X) (i : ℕ) (x : X) → new ≡ old ++ a ∷ [] →
    map g old ≡ take i (map f xs) → g a ≡ f x → i < length xs → x ≡ slice_index_or xs i x → map g new ≡ take (i + 1) (map f xs)
both_more g f old new a xs i x pushed so_far same within is =
    ap (map g) pushed ∙ map-append g old (a ∷ []) ∙ ap (λ ys. ys ++ g a ∷ []) so_far ∙ ap (λ y. take i (map f xs) ++ y ∷ []) same
    ∙ sym (taken_more f xs i x within is)
