-- What flags beside counts say.
use Rattle.std.proofs.Common.{◌≡◌, ℕ, zero, suc, ◌<◌, List, [], ◌∷◌, Bool, true, false, length, Option, Some, None, replicate, slice_index, slice_index_or, slice_set, refl, sym, ap, ◌∙◌, arith, true≢false, ◌&&◌}
use Rattle.ft_types.specs.Sets.{IsMember}
use Rattle.crew_pages.specs.machinery.Leaving.{left_of, AreBlank}

-- where no flag is set none left
pub none_left : (flags : List Bool) (n : ℕ) → ((i : ℕ) → IsMember flags i → ⊥) → left_of flags (replicate n 0) ≡ replicate n None
none_left flags zero none = refl
none_left [] (suc n) none = ap (λ (left : List (Option ℕ)). None ∷ left) (none_left [] n none)
none_left (true ∷ flags) (suc n) none = absurd (none 0 refl)
none_left (false ∷ flags) (suc n) none = ap (λ (left : List (Option ℕ)). None ∷ left) (none_left flags n (λ i. none (suc i)))

pub none_blank : (flags : List Bool) (n : ℕ) → AreBlank flags (replicate n 0)
none_blank flags zero = tt
none_blank [] (suc n) = (refl, none_blank [] n)
none_blank (true ∷ flags) (suc n) = none_blank flags n
none_blank (false ∷ flags) (suc n) = (refl, none_blank flags n)

-- a hart that has a flag left at its count
pub left_at : (flags : List Bool) (counts : List ℕ) (hart : ℕ) → hart < length counts → IsMember flags hart →
    slice_index_or (left_of flags counts) hart None ≡ Some (slice_index counts hart)
left_at flags [] hart there set = absurd (omega (arith, there))
left_at [] (count ∷ counts) hart there set = absurd (true≢false (sym set))
left_at (true ∷ flags) (count ∷ counts) zero there set = refl
left_at (false ∷ flags) (count ∷ counts) zero there set = absurd (true≢false (sym set))
left_at (true ∷ flags) (count ∷ counts) (suc hart) there set = left_at flags counts hart (omega (arith, there)) set
left_at (false ∷ flags) (count ∷ counts) (suc hart) there set = left_at flags counts hart (omega (arith, there)) set

-- another did not
pub left_not : (flags : List Bool) (counts : List ℕ) (hart : ℕ) → (IsMember flags hart → ⊥) → slice_index_or (left_of flags counts) hart None ≡ None
left_not flags [] hart unset = refl
left_not [] (count ∷ counts) zero unset = refl
left_not [] (count ∷ counts) (suc hart) unset = left_not [] counts hart (λ set. true≢false (sym set))
left_not (true ∷ flags) (count ∷ counts) zero unset = absurd (unset refl)
left_not (false ∷ flags) (count ∷ counts) zero unset = refl
left_not (true ∷ flags) (count ∷ counts) (suc hart) unset = left_not flags counts hart unset
left_not (false ∷ flags) (count ∷ counts) (suc hart) unset = left_not flags counts hart unset

-- with one hart more
pub left_more : (flags : List Bool) (counts : List ℕ) (hart count : ℕ) → hart < length flags → hart < length counts →
    left_of (slice_set flags hart true) (slice_set counts hart count) ≡ slice_set (left_of flags counts) hart (Some count)
left_more [] counts hart count has there = absurd (omega (arith, has))
left_more (flag ∷ flags) [] hart count has there = absurd (omega (arith, there))
left_more (true ∷ flags) (old ∷ counts) zero count has there = refl
left_more (false ∷ flags) (old ∷ counts) zero count has there = refl
left_more (true ∷ flags) (old ∷ counts) (suc hart) count has there =
    ap (λ (left : List (Option ℕ)). Some old ∷ left) (left_more flags counts hart count (omega (arith, has)) (omega (arith, there)))
left_more (false ∷ flags) (old ∷ counts) (suc hart) count has there =
    ap (λ (left : List (Option ℕ)). None ∷ left) (left_more flags counts hart count (omega (arith, has)) (omega (arith, there)))

pub blank_more : (flags : List Bool) (counts : List ℕ) (hart count : ℕ) → hart < length flags → AreBlank flags counts →
    AreBlank (slice_set flags hart true) (slice_set counts hart count)
blank_more [] counts hart count has blank = absurd (omega (arith, has))
blank_more (flag ∷ flags) [] hart count has blank = tt
blank_more (true ∷ flags) (old ∷ counts) zero count has blank = blank
blank_more (false ∷ flags) (old ∷ counts) zero count has blank = blank.1
blank_more (true ∷ flags) (old ∷ counts) (suc hart) count has blank = blank_more flags counts hart count (omega (arith, has)) blank
blank_more (false ∷ flags) (old ∷ counts) (suc hart) count has blank = (blank.0, blank_more flags counts hart count (omega (arith, has)) blank.1)

pub left_many : (flags : List Bool) (counts : List ℕ) → length (left_of flags counts) ≡ length counts
left_many flags [] = refl
left_many [] (count ∷ counts) = ap suc (left_many [] counts)
left_many (true ∷ flags) (count ∷ counts) = ap suc (left_many flags counts)
left_many (false ∷ flags) (count ∷ counts) = ap suc (left_many flags counts)

three : (a b c : Bool) → (a && b && c) ≡ (b && (a && c))
three true true c = refl
three true false c = refl
three false true c = refl
three false false c = refl

-- three parts that were compared, the second of them first
pub compared : {x y z a : Bool} (b c : Bool) → x ≡ a → y ≡ (x && b) → z ≡ (y && c) → z ≡ (b && (a && c))
compared {x} {y} {z} {a} b c first then last = last ∙ (ap (λ (p : Bool). p && c) (then ∙ ap (λ (p : Bool). p && b) first) ∙ three a b c)
