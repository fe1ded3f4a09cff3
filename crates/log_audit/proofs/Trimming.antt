-- Rows that take no more room than their harts.
use Rattle.std.proofs.Common.{◌≡◌, inl, inr, ℕ, zero, suc, ◌+◌, ◌-◌, ◌<◌, ◌≤◌, List, [], ◌∷◌, ◌++◌, length, take, drop, replicate, slice_index, slice_set}
use Rattle.std.proofs.Common.{refl, sym, ap, ◌∙◌, arith, append_assoc, length-append, length-set}
use Rattle.std.proofs.lemmas.Bool.{cases_lt}
use Rattle.std.proofs.lemmas.List.{get_or-append_right, get_or_append_left, get_or-replicate, get_or_past, length-replicate, replicate-append-replicate, set-append_left, drop-replicate}
use Rattle.ft_types.specs.declared.names.TheConstants.{HART_ROW}
use Rattle.log_audit.specs.machinery.Widened.{widened}

none_at : (n hart : ℕ) → slice_index (replicate n 0) hart ≡ 0
none_at n hart = elim (cases_lt hart n) [
  | inl lt ↦ get_or-replicate n hart 0 0 lt
  | inr ge ↦
      let many : length (replicate n 0) ≡ n = length-replicate {A = ℕ} n 0 in
      get_or_past (replicate n 0) hart 0 (omega (arith, ge, many))
]

-- a count is where it is in the shorter row
pub widened_at : (counts : List ℕ) (hart : ℕ) → hart < length counts → slice_index (widened counts) hart ≡ slice_index counts hart
widened_at counts hart lt = get_or_append_left counts (replicate (HART_ROW - length counts) 0) 0 hart lt

-- and 0 behind it
pub widened_past : (counts : List ℕ) (hart : ℕ) → length counts ≤ hart → slice_index (widened counts) hart ≡ 0
widened_past counts hart ge =
    get_or-append_right counts (replicate (HART_ROW - length counts) 0) (length counts) hart 0 refl ge
    ∙ none_at (HART_ROW - length counts) (hart - length counts)

pub length-widened : (counts : List ℕ) → length counts ≤ HART_ROW → length (widened counts) ≡ HART_ROW
length-widened counts few =
    let rest : length (replicate (HART_ROW - length counts) 0) ≡ HART_ROW - length counts = length-replicate {A = ℕ} (HART_ROW - length counts) 0 in
    let all : length (widened counts) ≡ length counts + length (replicate (HART_ROW - length counts) 0) =
    length-append counts (replicate (HART_ROW - length counts) 0) in
    omega (arith, all, rest, few)

-- a count that is put there
pub widened_set : (counts : List ℕ) (hart count : ℕ) → hart < length counts → widened (slice_set counts hart count) ≡ slice_set (widened counts) hart count
widened_set counts hart count lt =
    ap (λ n. slice_set counts hart count ++ replicate (HART_ROW - n) 0) (length-set counts hart count)
    ∙ sym (set-append_left counts (replicate (HART_ROW - length counts) 0) hart count lt)

-- some more of 0
pub widened_more : (counts : List ℕ) (more : ℕ) → length counts + more ≤ HART_ROW → widened (counts ++ replicate more 0) ≡ widened counts
widened_more counts more few =
    let zeros : length (replicate more 0) ≡ more = length-replicate {A = ℕ} more 0 in
    let long : length (counts ++ replicate more 0) ≡ length counts + length (replicate more 0) = length-append counts (replicate more 0) in
    let left : HART_ROW - length (counts ++ replicate more 0) ≡ HART_ROW - (length counts + more) = omega (arith, long, zeros) in
    let all : more + (HART_ROW - (length counts + more)) ≡ HART_ROW - length counts = omega (arith, few) in
    ap (λ n. (counts ++ replicate more 0) ++ replicate n 0) left
    ∙ append_assoc counts (replicate more 0) (replicate (HART_ROW - (length counts + more)) 0)
    ∙ ap (λ rest. counts ++ rest) (replicate-append-replicate more (HART_ROW - (length counts + more)) 0)
    ∙ ap (λ n. counts ++ replicate n 0) all

-- a row whose counts are 0
zeros : (row : List ℕ) → ((hart : ℕ) → slice_index row hart ≡ 0) → replicate (length row) 0 ≡ row
zeros [] none = refl
zeros (x ∷ row) none =
    let first : x ≡ 0 = none 0 in
    ap (λ rest. 0 ∷ rest) (zeros row (λ hart. none (suc hart))) ∙ ap (λ y. y ∷ row) (sym first)

-- and one whose counts are 0 from some place on
trimmed_back : (row : List ℕ) (n : ℕ) → n ≤ length row → ((hart : ℕ) → n ≤ hart → slice_index row hart ≡ 0) →
    take n row ++ replicate (length row - n) 0 ≡ row
trimmed_back [] zero le none = refl
trimmed_back [] (suc n) le none = absurd (omega (arith, le))
trimmed_back (x ∷ row) zero le none =
    let all : length (x ∷ row) - zero ≡ length (x ∷ row) = omega arith in
    ap (λ k. replicate k 0) all ∙ zeros (x ∷ row) (λ hart. none hart (omega arith))
trimmed_back (x ∷ row) (suc n) le none =
    let same : length (x ∷ row) - suc n ≡ length row - n = omega arith in
    ap (λ k. take (suc n) (x ∷ row) ++ replicate k 0) same
    ∙ ap (λ rest. x ∷ rest) (trimmed_back row n (omega (arith, le)) (λ hart ge. none (suc hart) (omega (arith, ge))))

pub widened_trimmed : (row : List ℕ) (n : ℕ) → length row ≡ HART_ROW → n ≤ HART_ROW → ((hart : ℕ) → n ≤ hart → slice_index row hart ≡ 0) →
    length (take n row) ≡ n → widened (take n row) ≡ row
widened_trimmed row n long le none many =
    let same : HART_ROW - length (take n row) ≡ length row - n = omega (arith, many, long) in
    ap (λ k. take n row ++ replicate k 0) same ∙ trimmed_back row n (omega (arith, le, long)) none

-- a whole row of 0, of which the first counts are these
pub widened_copied : (counts row : List ℕ) → take (length counts) counts ++ drop (length counts) (replicate HART_ROW 0) ≡ row → row ≡ widened counts
widened_copied counts row is =
    sym is ∙ ap (λ rest. take (length counts) counts ++ rest) (drop-replicate (length counts) HART_ROW 0)
    ∙ ap (λ front. front ++ replicate (HART_ROW - length counts) 0) (whole counts)
  where
    whole : (xs : List ℕ) → take (length xs) xs ≡ xs
    whole [] = refl
    whole (x ∷ xs) = ap (λ l. x ∷ l) (whole xs)
