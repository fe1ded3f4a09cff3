-- Numbers in packets.
use Rattle.std.proofs.Common.{◌≡◌, ℕ, zero, suc, ◌+◌, ◌-◌, ◌<◌, ◌≤◌, ◌⊎◌, inl, inr, List, [], ◌∷◌, ◌++◌, Option, None, Some, length, replicate, take, drop, slice_index, refl, sym, ap, subst, ◌∙◌, arith, IfSome, IfNone}
use Rattle.std.specs.List.{AllByRecursion}
use Rattle.ft_types.specs.Text.{word, IsWord}
use Rattle.ft_types.proofs.Texts.{word_same}
use Rattle.debugging.specs.Asked.{IsHex, IsRange, HasNone}

-- what is read of the padded digits is the number
pub hex_read : (text digits : List ℕ) (n m : ℕ) → digits ≡ replicate (8 - length text) 48 ++ text → IsWord digits m → IsHex text n → m ≡ n
hex_read text digits n m is found hex = word_same m n found.0 hex.below (sym found.1 ∙ is ∙ hex.digits)

-- and where none is read, there is none
pub hex_not_read : (text digits : List ℕ) (n : ℕ) → digits ≡ replicate (8 - length text) 48 ++ text → ((w : ℕ) → IsWord digits w → ⊥) → IsHex text n → ⊥
hex_not_read text digits n is none hex = none n (hex.below, is ∙ hex.digits)

-- so the padded digits are read as the number that the text is
pub read_is : (text digits : List ℕ) (read : Option ℕ) → digits ≡ replicate (8 - length text) 48 ++ text → IfSome read (IsWord digits) →
    IfNone read ((w : ℕ) → IsWord digits w → ⊥) → (n : ℕ) → IsHex text n → read ≡ Some n
read_is text digits (Some m) is found none n hex = ap Some (hex_read text digits n m is found hex)
read_is text digits None is found none n hex = absurd (hex_not_read text digits n is none hex)

-- ---- fronts

-- as many bytes of the text are its front
pub front_is : (front rest head tail : List ℕ) → length head ≡ length front → head ++ tail ≡ front ++ rest → head ≡ front
front_is [] rest [] tail few is = refl
front_is [] rest (y ∷ ys) tail few is = absurd (omega (arith, few))
front_is (x ∷ xs) rest [] tail few is = absurd (omega (arith, few))
front_is (x ∷ xs) rest (y ∷ ys) tail few is =
    let heads : y ≡ x = cc in
    let tails : ys ++ tail ≡ xs ++ rest = cc in
    rw (heads, front_is xs rest ys tail (omega (arith, few)) tails) refl

-- what is longer than the text is not
pub front_longer : (text front rest : List ℕ) → length text < length front → text ≡ front ++ rest → ⊥
front_longer text [] rest less is = omega (arith, less)
front_longer [] (x ∷ xs) rest less is = absurd cc
front_longer (t ∷ ts) (x ∷ xs) rest less is =
    let tails : ts ≡ xs ++ rest = cc in front_longer ts xs rest (omega (arith, less)) tails

-- ---- cuts

-- one more byte that is another one
pub none_more : (c : ℕ) (text : List ℕ) (i : ℕ) → i < length text → HasNone c (take i text) → (slice_index text i ≡ c → ⊥) → HasNone c (take (i + 1) text)
none_more c [] i less none other = absurd (omega (arith, less))
none_more c (x ∷ xs) zero less none other = (other, tt)
none_more c (x ∷ xs) (suc i) less none other =
    let e : suc i + 1 ≡ suc (i + 1) = omega arith in rw e (none.0, none_more c xs i (omega (arith, less)) none.1 other)

take_all : (text : List ℕ) → take (length text) text ≡ text
take_all [] = refl
take_all (x ∷ xs) = ap (λ (ys : List ℕ). x ∷ ys) (take_all xs)

-- the text is what stands before a byte, the byte, and what stands behind it
pub parted : (text : List ℕ) (i : ℕ) → i < length text → text ≡ take i text ++ slice_index text i ∷ drop (i + 1) text
parted [] i less = absurd (omega (arith, less))
parted (x ∷ xs) zero less = refl
parted (x ∷ xs) (suc i) less =
    let e : suc i + 1 ≡ suc (i + 1) = omega arith in rw e (ap (λ (ys : List ℕ). x ∷ ys) (parted xs i (omega (arith, less))))

pub cut_none : (c : ℕ) (text : List ℕ) (end : ℕ) → HasNone c (take end text) → end ≡ length text → HasNone c text
cut_none c text end none all = subst (λ (t : List ℕ). HasNone c t) (ap (λ (n : ℕ). take n text) all ∙ take_all text) none

pub cut_there : (c : ℕ) (text : List ℕ) (end : ℕ) → end ≤ length text → (end ≡ length text → ⊥) → slice_index text end ≡ c →
    text ≡ take end text ++ c ∷ drop (end + 1) text
cut_there c text end few more there =
    let less : end < length text = omega (arith, few, more) in
    parted text end less ∙ ap (λ (b : ℕ). take end text ++ b ∷ drop (end + 1) text) there

-- a text without the byte isn't cut at it
no_cut : (c : ℕ) (a b x : List ℕ) → HasNone c a → a ≡ b ++ c ∷ x → ⊥
no_cut c [] [] x p e = absurd cc
no_cut c [] (b ∷ bs) x p e = absurd cc
no_cut c (a ∷ us) [] x p e = p.0 (cc)
no_cut c (a ∷ us) (b ∷ bs) x p e =
    let tails : us ≡ bs ++ c ∷ x = cc in no_cut c us bs x p.1 tails

one_cut : (c : ℕ) (a b x y : List ℕ) → HasNone c a → HasNone c b → a ++ c ∷ x ≡ b ++ c ∷ y → (a ≡ b) × (x ≡ y)
one_cut c [] [] x y p q e = (refl, cc)
one_cut c [] (b ∷ bs) x y p q e = absurd (q.0 (cc))
one_cut c (a ∷ us) [] x y p q e = absurd (p.0 (cc))
one_cut c (a ∷ us) (b ∷ bs) x y p q e =
    let heads : a ≡ b = cc in
    let tails : us ++ c ∷ x ≡ bs ++ c ∷ y = cc in
    let r = one_cut c us bs x y p.1 q.1 tails in
    (rw (heads, r.0) refl, r.1)

-- what is cut at the byte is cut there
pub cut_is : (c : ℕ) (text front behind first rest : List ℕ) → HasNone c front → (text ≡ front ++ c ∷ behind) ⊎ ((text ≡ front) × (behind ≡ [])) →
    HasNone c first → text ≡ first ++ c ∷ rest → (front ≡ first) × (behind ≡ rest)
cut_is c text front behind first rest p (inl is) q e = one_cut c front first behind rest p q (sym is ∙ e)
cut_is c text front behind first rest p (inr is) q e = absurd (no_cut c front first rest p (sym is.0 ∙ e))

-- and where the byte stands nowhere, all stands before it
pub uncut_is : (c : ℕ) (text front behind : List ℕ) → HasNone c text → (text ≡ front ++ c ∷ behind) ⊎ ((text ≡ front) × (behind ≡ [])) →
    (front ≡ text) × (behind ≡ [])
uncut_is c text front behind p (inl is) = absurd (no_cut c text front behind p is)
uncut_is c text front behind p (inr is) = (sym is.0, is.1)

-- the first number of a range stands before the comma
pub first_is : (text front behind : List ℕ) → HasNone 44 front → (text ≡ front ++ 44 ∷ behind) ⊎ ((text ≡ front) × (behind ≡ [])) →
    (address many : ℕ) → IsRange text address many → IsHex front address
first_is text front behind p cut address many r =
    let same = cut_is 44 text front behind r.first r.behind p cut r.one r.is in
    subst (λ (f : List ℕ). IsHex f address) (sym same.0) r.address_is

-- and the second behind it
pub second_is : (text front behind : List ℕ) → HasNone 44 front → (text ≡ front ++ 44 ∷ behind) ⊎ ((text ≡ front) × (behind ≡ [])) →
    (address many : ℕ) → IsRange text address many → IsHex behind many
second_is text front behind p cut address many r =
    let same = cut_is 44 text front behind r.first r.behind p cut r.one r.is in
    subst (λ (b : List ℕ). IsHex b many) (sym same.1) r.many_is
