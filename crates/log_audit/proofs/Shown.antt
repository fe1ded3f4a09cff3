-- Rows as they stand in their vectors.
use Rattle.std.proofs.Common.{◌≡◌, ℕ, suc, ◌<◌, List, [], ◌∷◌, length, map, replicate, slice_index_or, slice_set, refl, ap, sym, ◌∙◌, arith, Vec, Global}
use Rattle.hart_lease.proofs.pages.Slots.{index-map, map-set}
use Rattle.log_audit.specs.declared.befores.Before.{Before}
use Rattle.log_audit.specs.machinery.Befores.{row_of}

abbrev pub items_of : Vec Before Global → List Before
items_of row = row.items

pub row_shown : (rows : List (Vec Before Global)) (shown : List (List Before)) (hart : ℕ) (row : Vec Before Global) → map items_of rows ≡ shown →
    row ≡ slice_index_or rows hart row → hart < length rows → row.items ≡ row_of shown hart
row_shown rows shown hart row view is lt =
    ap items_of is ∙ sym (index-map items_of row [] rows hart lt) ∙ ap (λ (s : List (List Before)). row_of s hart) view

pub row_set : (rows : List (Vec Before Global)) (shown : List (List Before)) (hart : ℕ) (row : Vec Before Global) (new : List Before) →
    map items_of rows ≡ shown → row.items ≡ new → map items_of (slice_set rows hart row) ≡ slice_set shown hart new
row_set rows shown hart row new view is =
    map-set items_of rows hart row ∙ ap (λ (s : List (List Before)). slice_set s hart row.items) view ∙ ap (λ r. slice_set shown hart r) is

-- where each row is empty, none has an entry
pub all_empty : (n : ℕ) (rows : List (Vec Before Global)) → length rows ≡ n → ((i : ℕ) (d : Vec Before Global) → i < length rows → (slice_index_or rows i d).items ≡ []) →
    map items_of rows ≡ replicate n []
all_empty n [] long each = ap (λ k. replicate k []) long
all_empty n (r ∷ rows) long each =
    ap (λ (l : List Before). l ∷ map items_of rows) (each 0 r (omega arith))
    ∙ ap (λ (l : List (List Before)). [] ∷ l) (all_empty (length rows) rows refl (λ i d lt. each (suc i) d (omega (arith, lt))))
    ∙ ap (λ k. replicate k []) long

-- what was read there
pub row_read : (rows : List (Vec Before Global)) (shown : List (List Before)) (i hart : ℕ) (row : Vec Before Global) (got : List Before) →
    got ≡ (slice_index_or rows i row).items → map items_of rows ≡ shown → row ≡ slice_index_or rows i row → i < length rows → i ≡ hart →
    got ≡ row_of shown hart
row_read rows shown i hart row got read view is lt at =
    read ∙ ap items_of (sym is) ∙ row_shown rows shown i row view is lt ∙ ap (row_of shown) at
