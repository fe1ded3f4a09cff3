-- Inputs that were added at one count.
use Rattle.std.proofs.Common.{◌≡◌, ◌≢◌, ℕ, ◌<◌, ◌≤◌, ◌++◌, List, [], ◌∷◌, All, map, refl, sym, ap, ◌∙◌, arith, ◌==◌, eq-eqb, ne_eqb, append-nil}
use Rattle.std.specs.List.{filter}
use Rattle.std.proofs.lemmas.List.{map-append}
use Rattle.std.proofs.lemmas.List.Elements.{All-head, All-tail, filter-append}
use Rattle.input_log.specs.declared.Input.{Input}
use Rattle.input_log.specs.Inputs.{inputs_at}

-- the inputs of two rows, one behind the other
pub at_append : (row more : List (ℕ × Input)) (n : ℕ) → inputs_at (row ++ more) n ≡ inputs_at row n ++ inputs_at more n
at_append row more n =
    ap (map (λ (x : ℕ × Input). x.1)) (filter-append (λ (x : ℕ × Input). x.0 == n) row more) ∙
    map-append (λ (x : ℕ × Input). x.1) (filter (λ (x : ℕ × Input). x.0 == n) row) (filter (λ (x : ℕ × Input). x.0 == n) more)

-- those that were added at n are all at n
pub at_same : (n : ℕ) (added : List Input) → inputs_at (map (λ i. (n, i)) added) n ≡ added
at_same n [] = refl
at_same n (i ∷ added) = rw (eq-eqb n n refl) (ap (λ l. i ∷ l) (at_same n added))

-- and none is at another count
pub at_another : (n m : ℕ) (added : List Input) → n ≢ m → inputs_at (map (λ i. (n, i)) added) m ≡ []
at_another n m [] ne = refl
at_another n m (i ∷ added) ne = rw (ne_eqb n m ne) (at_another n m added ne)

-- a row whose counts are all before m has none at m
pub none_at : (row : List (ℕ × Input)) (m : ℕ) → All (λ x. x.0 < m) row → inputs_at row m ≡ []
none_at [] m before = refl
none_at (x ∷ row) m before =
    let less : x.0 < m = All-head (λ (y : ℕ × Input). y.0 < m) x row before in
    let ne : x.0 ≢ m = omega arith in
    rw (ne_eqb x.0 m ne) (none_at row m (All-tail (λ (y : ℕ × Input). y.0 < m) x row before))

-- nor at any later one
pub none_from : (row : List (ℕ × Input)) (n m : ℕ) → All (λ x. x.0 < n) row → n ≤ m → inputs_at row m ≡ []
none_from row n m before later = none_at row m (λ k d below. let less = before k d below in omega arith)

-- the inputs at n, where they were added behind a row that ends before n
pub added_at : (row : List (ℕ × Input)) (n : ℕ) (added : List Input) → All (λ x. x.0 < n) row → inputs_at (row ++ map (λ i. (n, i)) added) n ≡ added
added_at row n added before = at_append row (map (λ i. (n, i)) added) n ∙ (ap (λ l. l ++ inputs_at (map (λ i. (n, i)) added) n) (none_at row n before) ∙
    at_same n added)

-- and those at another count, which are as they were
pub kept_at : (row : List (ℕ × Input)) (n m : ℕ) (added : List Input) → m ≢ n → inputs_at (row ++ map (λ i. (n, i)) added) m ≡ inputs_at row m
kept_at row n m added ne =
    at_append row (map (λ i. (n, i)) added) m ∙
    (ap (λ l. inputs_at row m ++ l) (at_another n m added (λ e. ne (sym e))) ∙ append-nil (inputs_at row m))
