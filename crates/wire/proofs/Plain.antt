-- Numbers, words and names have neither a space nor a line feed.
use Rattle.std.proofs.Common.{◌≡◌, ℕ, zero, suc, ◌+◌, ◌/◌, ◌%◌, ◌^◌, ◌<◌, ◌≤◌, List, [], ◌∷◌, ◌++◌, Bool, true, false, cond, ◌&&◌, map, arith}
use Rattle.std.specs.Prelude.{decimal, nat_lt}
use Rattle.std.specs.List.{AllByRecursion}
use Rattle.std.proofs.lemmas.Bool.{ltb-true, and_parts}
use Rattle.std.proofs.lemmas.Fmt.{decimal_by_steps}
use Rattle.ft_types.specs.Counts.{IsCount}
use Rattle.ft_types.specs.Text.{hex, hex_digit, word}
use Rattle.wire.specs.Fields.{HasNone, IsPlain, ArePlain, spelling}

-- each byte is above the space and the line feed
abbrev IsAbove : List ℕ → Type 0
IsAbove text = AllByRecursion (λ b. 32 < b) text

above-append : (xs ys : List ℕ) → IsAbove xs → IsAbove ys → IsAbove (xs ++ ys)
above-append [] ys p q = q
above-append (x ∷ xs) ys p q = (p.0, above-append xs ys p.1 q)

above_none : (c : ℕ) (xs : List ℕ) → c ≤ 32 → IsAbove xs → HasNone c xs
above_none c [] h p = tt
above_none c (x ∷ xs) h p = ((λ e. omega (arith, p.0)), above_none c xs h p.1)

above_plain : (xs : List ℕ) → IsAbove xs → IsPlain xs
above_plain xs p = (above_none 32 xs (omega arith) p, above_none 10 xs (omega arith) p)

digit_above : (b : Bool) (d : ℕ) → 32 < cond b (48 + d) (87 + d)
digit_above true d = omega arith
digit_above false d = omega arith

hex_above : (k n : ℕ) → IsAbove (hex k n)
unfolding hex
hex_above zero n = tt
hex_above (suc k) n = above-append (hex k (n / 16)) (hex_digit (n % 16) ∷ []) (hex_above k (n / 16)) (digit_above (nat_lt (n % 16) 10) (n % 16), tt)

word_above : (w : ℕ) → IsAbove (word w)
unfolding word
word_above w = hex_above 8 w

pub word_plain : (w : ℕ) → IsPlain (word w)
word_plain w = above_plain (word w) (word_above w)

one_above : (n : ℕ) → n < 10 → IsAbove ((48 + n) ∷ [])
one_above n h = (omega arith, tt)

next_above : (n : ℕ) (ds : List ℕ) → 10 ≤ n → IsAbove ds → IsAbove (ds ++ (48 + n % 10) ∷ [])
next_above n ds h p = above-append ds ((48 + n % 10) ∷ []) p (omega arith, tt)

pub decimal_plain : (n : ℕ) → n < 2 ^ 64 → IsPlain (decimal n)
decimal_plain n h = above_plain (decimal n) (decimal_by_steps (λ m ds. IsAbove ds) one_above next_above n h)

pub counts_plain : (ns : List ℕ) → AllByRecursion IsCount ns → ArePlain (map decimal ns)
counts_plain [] p = tt
counts_plain (n ∷ ns) p = (decimal_plain n (omega (arith, p.0)), counts_plain ns p.1)

-- ---- names

abbrev is_above : List ℕ → Bool
is_above [] = true
is_above (b ∷ bs) = nat_lt 32 b && is_above bs

name_above : (name : List ℕ) → is_above name ≡ true → IsAbove name
name_above [] e = tt
name_above (b ∷ bs) e = let p = and_parts (nat_lt 32 b) (is_above bs) e in (ltb-true 32 b p.0, name_above bs p.1)

pub name_plain : (name : List ℕ) → is_above name ≡ true → IsPlain name
name_plain name e = above_plain name (name_above name e)

-- ---- texts

pub none-append : (c : ℕ) (xs ys : List ℕ) → HasNone c xs → HasNone c ys → HasNone c (xs ++ ys)
none-append c [] ys p q = q
none-append c (x ∷ xs) ys p q = (p.0, none-append c xs ys p.1 q)

pub no_spaces : (fields : List (List ℕ)) → ArePlain fields → AllByRecursion (HasNone 32) fields
no_spaces [] p = tt
no_spaces (f ∷ fs) p = (p.0.0, no_spaces fs p.1)

-- the text of plain fields has no line feed
pub no_break : (fields : List (List ℕ)) → ArePlain fields → HasNone 10 (spelling fields)
no_break [] p = tt
no_break (f ∷ []) p = p.0.1
no_break (f ∷ g ∷ fs) p = none-append 10 f (32 ∷ spelling (g ∷ fs)) p.0.1 ((λ e. omega arith), no_break (g ∷ fs) p.1)

pub break-append : (xs ys : List ℕ) → HasNone 10 xs → HasNone 10 ys → HasNone 10 (xs ++ ys)
break-append xs ys p q = none-append 10 xs ys p q
