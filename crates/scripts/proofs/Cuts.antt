-- Texts that are cut where a byte first stands.
use Rattle.std.proofs.Common.{◌≡◌, ℕ, ◌^◌, ◌<◌, List, [], ◌∷◌, ◌++◌, refl, sym, ◌∙◌, arith, append_assoc}
use Rattle.std.specs.Prelude.{decimal}
use Rattle.std.proofs.lemmas.Fmt.{decimal_injective}
use Rattle.ft_types.specs.Text.{line, IsNumber}
use Rattle.scripts.specs.Script.{HasNone, IsHart}

-- where a byte is not, a text is not split at it
pub no_first : (c : ℕ) (text front behind : List ℕ) → HasNone c text → text ≡ front ++ c ∷ behind → ⊥
no_first c [] [] behind p e = absurd cc
no_first c [] (a ∷ us) behind p e = absurd cc
no_first c (b ∷ bs) [] behind p e = p.0 (cc)
no_first c (b ∷ bs) (a ∷ us) behind p e =
    let tails : bs ≡ us ++ c ∷ behind = cc in no_first c bs us behind p.1 tails

-- nothing, or what the byte begins
abbrev pub IsTail : ℕ → List ℕ → Type 0
IsTail c [] = Unit {0}
IsTail c (b ∷ bs) = b ≡ c

-- a text is cut where the byte first stands in one way
pub one_cut : (c : ℕ) (a b x y : List ℕ) → HasNone c a → HasNone c b → IsTail c x → IsTail c y → a ++ x ≡ b ++ y → (a ≡ b) × (x ≡ y)
one_cut c [] [] x y p q s t e = (refl, e)
one_cut c [] (b ∷ bs) [] y p q s t e = absurd cc
one_cut c [] (b ∷ bs) (d ∷ ds) y p q s t e = let heads : b ≡ d = cc in absurd (q.0 (heads ∙ s))
one_cut c (a ∷ us) [] x [] p q s t e = absurd cc
one_cut c (a ∷ us) [] x (d ∷ ds) p q s t e = let heads : a ≡ d = cc in absurd (p.0 (heads ∙ t))
one_cut c (a ∷ us) (b ∷ bs) x y p q s t e =
    let heads : a ≡ b = cc in
    let tails : us ++ x ≡ bs ++ y = cc in
    let r = one_cut c us bs x y p.1 q.1 s t tails in
    (rw (heads, r.0) refl, r.1)

-- and split at it in one way
pub one_first : (c : ℕ) (a b x y : List ℕ) → HasNone c a → HasNone c b → a ++ c ∷ x ≡ b ++ c ∷ y → (a ≡ b) × (x ≡ y)
one_first c a b x y p q e =
    let r = one_cut c a b (c ∷ x) (c ∷ y) p q refl refl e in
    (r.0, let same : c ∷ x ≡ c ∷ y = r.1 in cc)

pub line_is : (text rest : List ℕ) → line text ++ rest ≡ text ++ 10 ∷ rest
line_is text rest = append_assoc text (10 ∷ []) rest

-- ---- numbers of fields

-- another number is read
pub other_number : (text : List ℕ) (m n : ℕ) → IsNumber text m → n < 2 ^ 48 → text ≡ decimal n → m ≡ n
other_number text m n is h e = decimal_injective m n (omega (arith, is.0)) (omega arith) (sym is.1 ∙ e)

pub hart_small : (harts hart : ℕ) → IsHart harts hart → hart < 2 ^ 48
hart_small harts hart h = omega (arith, h.1)

pub other_hart : (harts n : ℕ) (text : List ℕ) → n < 2 ^ 48 → text ≡ decimal n → (IsHart harts n → ⊥) → (h : ℕ) → IsHart harts h → text ≡ decimal h → ⊥
other_hart harts n text small is lacks h hart e =
    let same : n ≡ h = decimal_injective n h (omega (arith, small)) (omega (arith, hart.1)) (sym is ∙ e) in
    lacks (rw same hart)
