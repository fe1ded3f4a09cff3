-- Flags in the bits of numbers, the lowest first.
use Rattle.std.specs.Prelude.{◌≡◌, ℕ, zero, suc, ◌+◌, ◌*◌, ◌/◌, ◌%◌, ◌^◌, ◌<◌, ◌==◌, List, [], ◌∷◌, ◌++◌, Bool, true, false, length, take, drop, refl, bit_and}
use Rattle.std.specs.Int.{w64, bit_not}
use Rattle.std.specs.List.{AllByRecursion}
use Rattle.std.proofs.Common.{arith, ap, subst, sym, ◌∙◌}
use Rattle.std.proofs.Math.Seq.{take-append_seam, drop-append_seam}
use Rattle.std.proofs.Math.Nat.{pow-suc}

-- the flags in so many bits of a number
unfoldable pub flags_of : ℕ → ℕ → List Bool
flags_of zero n = []
flags_of (suc k) n = (n % 2 == 1) ∷ flags_of k (n / 2)

-- the number that has these flags
unfoldable pub number_of : List Bool → ℕ
number_of [] = 0
number_of (true ∷ flags) = 2 * number_of flags + 1
number_of (false ∷ flags) = 2 * number_of flags

number_of_flag : (digit : ℕ) → digit < 2 → (flags : List Bool) → number_of ((digit == 1) ∷ flags) ≡ 2 * number_of flags + digit
unfolding number_of
number_of_flag zero low flags = omega arith
number_of_flag (suc zero) low flags = omega arith
number_of_flag (suc (suc digit)) low flags = absurd (omega arith)

-- a number of so many bits comes back from its flags
pub number_of-flags_of : (k n : ℕ) → n < 2 ^ k → number_of (flags_of k n) ≡ n
unfolding flags_of number_of
number_of-flags_of zero n fits = omega arith
number_of-flags_of (suc k) n fits =
    number_of_flag (n % 2) (omega arith) (flags_of k (n / 2)) ∙ omega (arith, number_of-flags_of k (n / 2) (omega (arith, pow-suc 2 k)))

pub length-flags_of : (k n : ℕ) → length (flags_of k n) ≡ k
unfolding flags_of
length-flags_of zero n = refl
length-flags_of (suc k) n = ap suc (length-flags_of k (n / 2))

-- ---- words

-- four words of 64 bits
abbrev pub AreWords : List ℕ → Type 0
AreWords words = (length words ≡ 4) × AllByRecursion (λ word. word < 2 ^ 64) words

-- the flags in words, those of each behind those of the one before it
unfoldable pub flags_in : List ℕ → List Bool
flags_in [] = []
flags_in (word ∷ words) = flags_of 64 word ++ flags_in words

-- so many words that have these flags
unfoldable pub words_of : ℕ → List Bool → List ℕ
words_of zero flags = []
words_of (suc n) flags = number_of (take 64 flags) ∷ words_of n (drop 64 flags)

words_again : (words : List ℕ) → AllByRecursion (λ word. word < 2 ^ 64) words → words_of (length words) (flags_in words) ≡ words
unfolding words_of flags_in
words_again [] fits = refl
words_again (word ∷ words) fits =
    let own : List Bool = flags_of 64 word in
    let rest : List Bool = flags_in words in
    let front : take 64 (own ++ rest) ≡ own = subst (λ (k : ℕ). take k (own ++ rest) ≡ own) (length-flags_of 64 word) (take-append_seam own rest) in
    let behind : drop 64 (own ++ rest) ≡ rest = subst (λ (k : ℕ). drop k (own ++ rest) ≡ rest) (length-flags_of 64 word) (drop-append_seam own rest) in
    ap (λ (flags : List Bool). number_of flags ∷ words_of (length words) (drop 64 (own ++ rest))) front
    ∙ ap (λ (n : ℕ). n ∷ words_of (length words) (drop 64 (own ++ rest))) (number_of-flags_of 64 word fits.0)
    ∙ ap (λ (flags : List Bool). word ∷ words_of (length words) flags) behind
    ∙ ap (λ (others : List ℕ). word ∷ others) (words_again words fits.1)

-- words come back from their flags
pub words_back : (words : List ℕ) → AreWords words → words_of 4 (flags_in words) ≡ words
words_back words are = subst (λ (n : ℕ). words_of n (flags_in words) ≡ words) are.0 (words_again words are.1)

-- the bits of the first that the second lacks
abbrev pub left_of : ℕ → ℕ → ℕ
left_of x y = bit_and x (bit_not w64 y)

-- the bit at a place of a word
pub record IsBitOf (place bit : ℕ) : Type 0 where
  pub within : place < 64
  pub is : bit ≡ 2 ^ place
