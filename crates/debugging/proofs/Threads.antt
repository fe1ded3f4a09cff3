-- Threads that a text names.
use Rattle.std.proofs.Common.{◌≡◌, ◌⊎◌, inl, inr, ℕ, ◌<◌, List, [], Option, None, Some, get_or, refl, sym, ap, ◌∙◌, arith, length, subst}
use Rattle.std.proofs.lemmas.Grind.{common_steps}
use Rattle.std.specs.Prelude.{codes}
use Rattle.ft_types.specs.Text.{word, hex_digit}
use Rattle.ft_types.proofs.Texts.{word_at}
use Rattle.debugging.specs.declared.numbers.Thread.{Thread}
use Rattle.debugging.specs.declared.numbers.Thread.TheVariants.{Any, Number, Wrong}
use Rattle.debugging.specs.Asked.{IsHex, IsThread}

-- no digit is a dash
no_dash : (d : ℕ) → hex_digit d ≡ 45 → ⊥
no_dash d is = absurd (grind (arith, common_steps))

-- what names any thread so is no number
no_number : (text : List ℕ) (n : ℕ) → (text ≡ []) ⊎ (text ≡ codes "-1") → IsHex text n → ⊥
no_number text n (inl none) hex = let some : 0 < 0 = subst (λ (t : List ℕ). 0 < length t) none hex.some in absurd (omega (arith, some))
no_number text n (inr dash) hex =
    let is : IsHex (codes "-1") n = subst (λ (t : List ℕ). IsHex t n) dash hex in
    let at = word_at n 6 (omega arith) in
    no_dash at.0 (sym at.2 ∙ ap (λ (t : List ℕ). get_or t 6 0) (sym is.digits))

pub any_named : (text : List ℕ) (t : Thread) → (text ≡ []) ⊎ (text ≡ codes "-1") → IsThread text t → Any ≡ t
any_named text Any which is = refl
any_named text (Number n) which is = absurd (no_number text n which is.1)
any_named text Wrong which is = absurd is

-- where no number is read, the text is none of a thread
pub none_named : (text : List ℕ) (t : Thread) (read : Option ℕ) → read ≡ None → ((n : ℕ) → IsHex text n → read ≡ Some n) → ((text ≡ []) ⊎ (text ≡ codes "-1") → ⊥) →
    IsThread text t → Wrong ≡ t
none_named text Any read none number other (inl is) = absurd (other (inl is))
none_named text Any read none number other (inr (inl is)) = let e = number 0 is in absurd cc
none_named text Any read none number other (inr (inr is)) = absurd (other (inr is))
none_named text (Number n) read none number other is = let e = number n is.1 in absurd cc
none_named text Wrong read none number other is = absurd is

-- 0 names any
pub zero_named : (text : List ℕ) (t : Thread) (read : Option ℕ) (m : ℕ) → read ≡ Some m → m ≡ 0 → ((n : ℕ) → IsHex text n → read ≡ Some n) → IsThread text t → Any ≡ t
zero_named text Any read m there zero number is = refl
zero_named text (Number n) read m there zero number is =
    let e = number n is.1 in let same : m ≡ n = cc in absurd (omega (arith, is.0, same, zero))
zero_named text Wrong read m there zero number is = absurd is

-- and another number its thread
pub number_named : (text : List ℕ) (t : Thread) (read : Option ℕ) (m : ℕ) → read ≡ Some m → (m ≡ 0 → ⊥) → ((n : ℕ) → IsHex text n → read ≡ Some n) →
    ((text ≡ []) ⊎ (text ≡ codes "-1") → ⊥) → IsThread text t → Number m ≡ t
number_named text Any read m there more number other (inl is) = absurd (other (inl is))
number_named text Any read m there more number other (inr (inl is)) = let e = number 0 is in let same : m ≡ 0 = cc in absurd (more same)
number_named text Any read m there more number other (inr (inr is)) = absurd (other (inr is))
number_named text (Number n) read m there more number other is = let e = number n is.1 in let same : m ≡ n = cc in ap Number same
number_named text Wrong read m there more number other is = absurd is
