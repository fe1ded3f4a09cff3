-- A line is read in one way.
use Rattle.std.proofs.Common.{◌≡◌, ℕ, zero, suc, ◌+◌, ◌*◌, ◌/◌, ◌%◌, ◌^◌, ◌<◌, ◌≤◌, List, [], ◌∷◌, ◌++◌, length, take, drop, refl, ap, sym, ◌∙◌, arith}
use Rattle.std.proofs.Common.{append_assoc, length-append}
use Rattle.std.specs.Prelude.{decimal, cond, nat_lt, Bool, true, false}
use Rattle.std.specs.Prelude.{nat_eq}
use lib.Pointwise.{pointwise}
use Rattle.std.specs.Cmp.Lexicographic.{same_text, other_text}
use Rattle.std.proofs.lemmas.List.{take-append-drop}
use Rattle.std.proofs.Math.Seq.{take-append_seam}
use Rattle.std.specs.List.{AllByRecursion}
use Rattle.std.proofs.lemmas.Grind.{flat_map-append}
use Rattle.std.proofs.lemmas.Fmt.{decimal_by_steps, decimal_injective}
use Rattle.ft_types.specs.Text.{line, hex, hex_digit, word, IsNumber, IsWord}
use Rattle.guest_image.specs.Image.{word_line, Sets, LacksSetting, StartsWithWord, LacksWord, WordsThen, AreWords}

abbrev pub NoBreak : List ℕ → Type 0
NoBreak xs = AllByRecursion (λ b. b ≡ 10 → ⊥) xs

pub no_break-append : (xs ys : List ℕ) → NoBreak xs → NoBreak ys → NoBreak (xs ++ ys)
no_break-append [] ys p q = q
no_break-append (x ∷ xs) ys p q = (p.0, no_break-append xs ys p.1 q)

digit_no_break : (b : Bool) (d : ℕ) → cond b (48 + d) (87 + d) ≡ 10 → ⊥
digit_no_break true d e = omega arith
digit_no_break false d e = omega arith

hex_no_break : (k n : ℕ) → NoBreak (hex k n)
unfolding hex
hex_no_break zero n = tt
hex_no_break (suc k) n = no_break-append (hex k (n / 16)) (hex_digit (n % 16) ∷ []) (hex_no_break k (n / 16))
    (digit_no_break (nat_lt (n % 16) 10) (n % 16), tt)

pub word_no_break : (w : ℕ) → NoBreak (word w)
unfolding word
word_no_break w = hex_no_break 8 w

decimal_one : (n : ℕ) → n < 10 → NoBreak ((48 + n) ∷ [])
decimal_one n h = ((λ e. omega arith), tt)

decimal_next : (n : ℕ) (ds : List ℕ) → 10 ≤ n → NoBreak ds → NoBreak (ds ++ (48 + n % 10) ∷ [])
decimal_next n ds h p = no_break-append ds ((48 + n % 10) ∷ []) p ((λ e. omega arith), tt)

pub decimal_no_break : (n : ℕ) → n < 10 ^ 15 → NoBreak (decimal n)
decimal_no_break n h = decimal_by_steps (λ m ds. NoBreak ds) decimal_one decimal_next n (omega arith)

-- without a line feed there is no line
pub no_line : (bytes text rest : List ℕ) → NoBreak bytes → bytes ≡ line text ++ rest → ⊥
no_line [] [] rest p e = absurd cc
no_line [] (t ∷ ts) rest p e = absurd cc
no_line (b ∷ bs) [] rest p e = p.0 (cc)
no_line (b ∷ bs) (t ∷ ts) rest p e = let tails : bs ≡ line ts ++ rest = cc in no_line bs ts rest p.1 tails

-- the first line is one
pub line_unique : (a b x y : List ℕ) → NoBreak a → NoBreak b → line a ++ x ≡ line b ++ y → (a ≡ b) × (x ≡ y)
line_unique [] [] x y p q e = (refl, cc)
line_unique [] (b ∷ bs) x y p q e = absurd (q.0 (cc))
line_unique (a ∷ us) [] x y p q e = absurd (p.0 (cc))
line_unique (a ∷ us) (b ∷ bs) x y p q e =
    let heads : a ≡ b = cc in
    let tails : line us ++ x ≡ line bs ++ y = cc in
    let r = line_unique us bs x y p.1 q.1 tails in
    (rw (heads, r.0) refl, r.1)

pub same_setting : (bytes name text rest : List ℕ) (n : ℕ) (other : List ℕ) → NoBreak name → NoBreak text →
    bytes ≡ line text ++ rest → Sets bytes name n other → (text ≡ name ++ decimal n) × (rest ≡ other)
same_setting bytes name text rest n other p q e s = line_unique text (name ++ decimal n) rest other q
    (no_break-append name (decimal n) p (decimal_no_break n s.1)) (sym e ∙ s.2)

pub same_word : (bytes text rest : List ℕ) (w : ℕ) (other : List ℕ) → NoBreak text → bytes ≡ line text ++ rest →
    StartsWithWord bytes w other → (text ≡ word w) × (rest ≡ other)
same_word bytes text rest w other q e s = line_unique text (word w) rest other q (word_no_break w) (sym e ∙ s.1)

pub lacks_by_line : (bytes name : List ℕ) → NoBreak bytes → LacksSetting bytes name
lacks_by_line bytes name p n rest s = no_line bytes (name ++ decimal n) rest p s.2

pub lacks_by_text : (bytes name text rest : List ℕ) → NoBreak name → NoBreak text → bytes ≡ line text ++ rest →
    ((n : ℕ) → 0 < n → n < 10 ^ 15 → text ≡ name ++ decimal n → ⊥) → LacksSetting bytes name
lacks_by_text bytes name text rest p q e none n other s = none n s.0 s.1
    (same_setting bytes name text rest n other p q e s).0

pub lacks_word_by_line : (bytes : List ℕ) → NoBreak bytes → LacksWord bytes
lacks_word_by_line bytes p w rest s = no_line bytes (word w) rest p s.1

pub lacks_word_by_text : (bytes text rest : List ℕ) → NoBreak text → bytes ≡ line text ++ rest →
    ((w : ℕ) → IsWord text w → ⊥) → LacksWord bytes
lacks_word_by_text bytes text rest q e none w other s = none w (s.0, (same_word bytes text rest w other q e s).0)

pub are_words-append : (ws vs : List ℕ) → AreWords ws → AreWords vs → AreWords (ws ++ vs)
are_words-append [] vs p q = q
are_words-append (w ∷ ws) vs p q = (p.0, are_words-append ws vs p.1 q)

pub words_begin : (pages : ℕ) (bytes : List ℕ) → WordsThen pages bytes [] bytes
words_begin pages bytes = (tt, omega arith, refl)

pub words_go_on : (pages : ℕ) (bytes words rest : List ℕ) (w : ℕ) (behind : List ℕ) → length words < pages * 1024 →
    StartsWithWord rest w behind → WordsThen pages bytes words rest → WordsThen pages bytes (words ++ w ∷ []) behind
words_go_on pages bytes words rest w behind room s p = (
  are_words-append words (w ∷ []) p.0 (s.0, tt),
  omega (arith, length-append words (w ∷ [])),
  p.2 ∙ rw s.1 (sym (rw (flat_map-append word_line words (w ∷ [])) (simp append_assoc))),
)

pub same_front : (a x y : List ℕ) → a ++ x ≡ a ++ y → x ≡ y
same_front [] x y e = e
same_front (b ∷ bs) x y e = let tails : bs ++ x ≡ bs ++ y = cc in same_front bs x y tails

pub not_zero : (n m : ℕ) (digits : List ℕ) → 0 < n → n < 10 ^ 15 → m ≡ 0 → IsNumber digits m → digits ≡ decimal n → ⊥
not_zero n m digits p q z is e =
    let same : m ≡ n = decimal_injective m n (omega (arith, is.0)) (omega arith) (sym is.1 ∙ e) in
    omega arith

pub setting_is : (bytes name text rest digits : List ℕ) (n : ℕ) → (n ≡ 0 → ⊥) → bytes ≡ line text ++ rest →
    text ≡ name ++ digits → IsNumber digits n → Sets bytes name n rest
setting_is bytes name text rest digits n positive e f is =
    (omega arith, is.0, e ∙ ap (λ (t : List ℕ). line t ++ rest) (f ∙ ap (λ (t : List ℕ). name ++ t) is.1))

pub with_prefix : (name text digits : List ℕ) → pointwise nat_eq (take (length name) text) name ≡ true →
    digits ≡ drop (length name) text → text ≡ name ++ digits
with_prefix name text digits h e =
    let front : take (length name) text ≡ name = same_text (take (length name) text) name (sym h) in
    sym (take-append-drop (length name) text) ∙ rw (front, e) refl

pub without_prefix : (name text digits : List ℕ) → pointwise nat_eq (take (length name) text) name ≡ false →
    text ≡ name ++ digits → ⊥
without_prefix name text digits h e = other_text (take (length name) text) name (sym h)
    (ap (λ (t : List ℕ). take (length name) t) e ∙ take-append_seam name digits)
