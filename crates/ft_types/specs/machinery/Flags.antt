-- Flags in the bits of numbers, the lowest first.
use Rattle.std.specs.Prelude.{◌≡◌, ℕ, zero, suc, ◌+◌, ◌*◌, ◌/◌, ◌%◌, ◌^◌, ◌<◌, ◌==◌, List, [], ◌∷◌, Bool, true, false, length, refl}
use Rattle.std.proofs.Common.{arith, ap, ◌∙◌}
use Rattle.std.proofs.Math.Nat.{pow-suc}

-- the flags in so many bits of a number
unfoldable pub flags_of : ℕ → ℕ → List Bool
flags_of zero n = []
flags_of (suc k) n = (n % 2 == 1) ∷ flags_of k (n / 2)

-- the number that has these flags
unfoldable pub number_of : List Bool → ℕ
number_of [] = 0
number_of (true ∷ flags) = 2 * number_of flags + 1
number_of (false ∷ flags) = 2 * number_of flags

number_of_flag : (digit : ℕ) → digit < 2 → (flags : List Bool) → number_of ((digit == 1) ∷ flags) ≡ 2 * number_of flags + digit
unfolding number_of
number_of_flag zero low flags = omega arith
number_of_flag (suc zero) low flags = omega arith
number_of_flag (suc (suc digit)) low flags = absurd (omega arith)

-- a number of so many bits comes back from its flags
pub number_of-flags_of : (k n : ℕ) → n < 2 ^ k → number_of (flags_of k n) ≡ n
unfolding flags_of number_of
number_of-flags_of zero n fits = omega arith
number_of-flags_of (suc k) n fits =
    number_of_flag (n % 2) (omega arith) (flags_of k (n / 2)) ∙ omega (arith, number_of-flags_of k (n / 2) (omega (arith, pow-suc 2 k)))

pub length-flags_of : (k n : ℕ) → length (flags_of k n) ≡ k
unfolding flags_of
length-flags_of zero n = refl
length-flags_of (suc k) n = ap suc (length-flags_of k (n / 2))

-- the bit at a place of a word
pub record IsBitAt (width place bit : ℕ) : Type 0 where
  pub within : place < width
  pub is : bit ≡ 2 ^ place
