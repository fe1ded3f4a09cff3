-- A line has one word.
use Rattle.std.proofs.Common.{◌≡◌, ℕ, zero, suc, ◌+◌, ◌/◌, ◌%◌, ◌^◌, ◌<◌, List, [], ◌∷◌, ◌++◌, Option, None, Some, refl, sym, ◌∙◌, arith, append_assoc}
use Rattle.std.specs.Prelude.{cond, nat_lt, Bool, true, false, IfNone}
use Rattle.std.specs.List.{AllByRecursion}
use Rattle.ft_types.specs.Text.{line, hex, hex_digit, word, IsWord}
use Rattle.asking.specs.Words.{LacksWord}

-- no byte is a line feed
abbrev HasNoEnd : List ℕ → Type 0
HasNoEnd text = AllByRecursion (λ b. b ≡ 10 → ⊥) text

ends-append : (xs ys : List ℕ) → HasNoEnd xs → HasNoEnd ys → HasNoEnd (xs ++ ys)
ends-append [] ys p q = q
ends-append (x ∷ xs) ys p q = (p.0, ends-append xs ys p.1 q)

digit-no_end : (b : Bool) (d : ℕ) → cond b (48 + d) (87 + d) ≡ 10 → ⊥
digit-no_end true d e = omega (arith, e)
digit-no_end false d e = omega (arith, e)

hex-no_end : (k n : ℕ) → HasNoEnd (hex k n)
unfolding hex
hex-no_end zero n = tt
hex-no_end (suc k) n = ends-append (hex k (n / 16)) (hex_digit (n % 16) ∷ []) (hex-no_end k (n / 16))
    (digit-no_end (nat_lt (n % 16) 10) (n % 16), tt)

word-no_end : (w : ℕ) → HasNoEnd (word w)
unfolding word
word-no_end w = hex-no_end 8 w

-- a text has one first line
one-line : (a b x y : List ℕ) → HasNoEnd a → HasNoEnd b → a ++ 10 ∷ x ≡ b ++ 10 ∷ y → a ≡ b
one-line [] [] x y p q e = refl
one-line [] (b ∷ bs) x y p q e = absurd (q.0 (cc))
one-line (a ∷ us) [] x y p q e = absurd (p.0 (cc))
one-line (a ∷ us) (b ∷ bs) x y p q e =
    let heads : a ≡ b = cc in
    let tails : us ++ 10 ∷ x ≡ bs ++ 10 ∷ y = cc in
    rw (heads, one-line us bs x y p.1 q.1 tails) refl

line-is : (text rest : List ℕ) → line text ++ rest ≡ text ++ 10 ∷ rest
line-is text rest = append_assoc text (10 ∷ []) rest

-- bytes whose first line is no word begin with none
pub lacks_by_text : (bytes text behind : List ℕ) → HasNoEnd text → bytes ≡ line text ++ behind → ((w : ℕ) → IsWord text w → ⊥) → LacksWord bytes
lacks_by_text bytes text behind none e other w rest lt f =
    other w (lt, one-line text (word w) behind rest none (word-no_end w) (sym (line-is text behind) ∙ sym e ∙ f ∙ line-is (word w) rest))

pub if_none : {A : Type 0} (o : Option A) (P : Type 0) → P → IfNone o P
if_none None P p = p
if_none (Some a) P p = tt
