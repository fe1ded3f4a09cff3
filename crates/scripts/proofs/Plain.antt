-- Bytes of fields: neither a number nor a word has a space or a line feed.
use Rattle.std.proofs.Common.{◌≡◌, ℕ, zero, suc, ◌+◌, ◌/◌, ◌%◌, ◌^◌, ◌<◌, ◌≤◌, List, [], ◌∷◌, ◌++◌, refl, arith}
use Rattle.std.specs.Prelude.{decimal, cond, nat_lt, Bool, true, false}
use Rattle.std.specs.List.{AllByRecursion}
use Rattle.std.proofs.lemmas.Bool.{ltb-true}
use Rattle.std.proofs.lemmas.Fmt.{decimal_by_steps}
use Rattle.ft_types.specs.Text.{hex, hex_digit, word}
use Rattle.scripts.specs.Script.{HasNone}

-- each byte is above the space and the line feed
abbrev IsPlain : List ℕ → Type 0
IsPlain text = AllByRecursion (λ b. 32 < b) text

plain-append : (xs ys : List ℕ) → IsPlain xs → IsPlain ys → IsPlain (xs ++ ys)
plain-append [] ys p q = q
plain-append (x ∷ xs) ys p q = (p.0, plain-append xs ys p.1 q)

pub has_none-append : (c : ℕ) (xs ys : List ℕ) → HasNone c xs → HasNone c ys → HasNone c (xs ++ ys)
has_none-append c [] ys p q = q
has_none-append c (x ∷ xs) ys p q = (p.0, has_none-append c xs ys p.1 q)

plain_has_none : (c : ℕ) (xs : List ℕ) → c ≤ 32 → IsPlain xs → HasNone c xs
plain_has_none c [] h p = tt
plain_has_none c (x ∷ xs) h p = ((λ e. omega (arith, p.0)), plain_has_none c xs h p.1)

-- the same, as a test that computes
abbrev all_above : List ℕ → Bool
all_above [] = true
all_above (b ∷ bs) = cond (nat_lt 32 b) (all_above bs) false

both_tests : (b rest : Bool) → cond b rest false ≡ true → (b ≡ true) × (rest ≡ true)
both_tests true rest e = (refl, e)
both_tests false rest e = absurd cc

plain_by_test : (xs : List ℕ) → all_above xs ≡ true → IsPlain xs
plain_by_test [] e = tt
plain_by_test (b ∷ bs) e = let both = both_tests (nat_lt 32 b) (all_above bs) e in (ltb-true 32 b both.0, plain_by_test bs both.1)

pub tested_has_none : (c : ℕ) (xs : List ℕ) → c ≤ 32 → all_above xs ≡ true → HasNone c xs
tested_has_none c xs small e = plain_has_none c xs small (plain_by_test xs e)

digit_plain : (b : Bool) (d : ℕ) → 32 < cond b (48 + d) (87 + d)
digit_plain true d = omega arith
digit_plain false d = omega arith

hex_plain : (k n : ℕ) → IsPlain (hex k n)
unfolding hex
hex_plain zero n = tt
hex_plain (suc k) n = plain-append (hex k (n / 16)) (hex_digit (n % 16) ∷ []) (hex_plain k (n / 16))
    (digit_plain (nat_lt (n % 16) 10) (n % 16), tt)

word_plain : (w : ℕ) → IsPlain (word w)
unfolding word
word_plain w = hex_plain 8 w

decimal_one : (n : ℕ) → n < 10 → IsPlain ((48 + n) ∷ [])
decimal_one n h = (omega arith, tt)

decimal_next : (n : ℕ) (ds : List ℕ) → 10 ≤ n → IsPlain ds → IsPlain (ds ++ (48 + n % 10) ∷ [])
decimal_next n ds h p = plain-append ds ((48 + n % 10) ∷ []) p (omega arith, tt)

decimal_plain : (n : ℕ) → n < 2 ^ 48 → IsPlain (decimal n)
decimal_plain n h = decimal_by_steps (λ m ds. IsPlain ds) decimal_one decimal_next n (omega arith)

pub number_has_none : (c n : ℕ) → c ≤ 32 → n < 2 ^ 48 → HasNone c (decimal n)
number_has_none c n small h = plain_has_none c (decimal n) small (decimal_plain n h)

pub word_has_none : (c w : ℕ) → c ≤ 32 → HasNone c (word w)
word_has_none c w small = plain_has_none c (word w) small (word_plain w)
