-- Rows that are copied place by place.
use Rattle.std.proofs.Common.{◌≡◌, ℕ, ◌+◌, ◌<◌, List, length, slice_set, slice_index_or, arith, inl, inr, ◌∙◌}
use Rattle.std.proofs.lemmas.Bool.{cases_eq}
use Rattle.std.proofs.lemmas.List.{get_or-set_same, get_or-set_other, get_or_default}

-- a row that is another one's copy as far as this place, and gets what the other has there, is so further
pub one_copied : {A : Type 0} (old new : List A) (n : ℕ) (was x : A) → n < length old → length new ≡ length old → x ≡ slice_index_or old n was →
    ((i : ℕ) (d : A) → i < n → slice_index_or new i d ≡ slice_index_or old i d) → (i : ℕ) (d : A) → i < n + 1 →
    slice_index_or (slice_set new n x) i d ≡ slice_index_or old i d
one_copied old new n was x lt many is before i d below =
    elim (cases_eq i n) [
      | inl same ↦ rw same (get_or-set_same new n x d (omega (arith, lt, many)) ∙ (is ∙ get_or_default old n was d lt))
      | inr other ↦ get_or-set_other new n i x d other ∙ before i d (omega (arith, below, other))
    ]
