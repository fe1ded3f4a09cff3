-- Numbers that are put behind a front.
use Rattle.std.proofs.Common.{◌≡◌, ℕ, ◌+◌, ◌-◌, ◌*◌, ◌/◌, ◌%◌, ◌<◌, ◌≤◌, List, ◌∷◌, ◌++◌, get_or, drop}
use Rattle.std.proofs.Common.{ap, sym, ◌∙◌, arith, append_assoc}
use Rattle.std.specs.Prelude.{decimal}
use Rattle.ft_types.proofs.Texts.{are_pairs, pairs_below}
use Rattle.itoa.proofs.Decimal.{decimal_pair, pair}
use Rattle.guest_image.specs.declared.front.TheConstants.{PAIRS}
use Rattle.guest_image.specs.declared.front.Front.{Front}
use Rattle.guest_image.specs.machinery.Fronts.{IsFront}

-- the table's two digits of a number
pub pairs_at : (p : ℕ) → p < 100 → (get_or PAIRS (p * 2) 0 ≡ 48 + p / 10) × (get_or PAIRS (p * 2 + 1) 0 ≡ 48 + p % 10)
unfolding are_pairs
pairs_at p h = pairs_below PAIRS 10 (λ (d : ℕ). 48 + d) 100 p tt h

-- the text of a front and the last two digits are those of the number
pub front_number : (f : Front) (number low : ℕ) (rest : List ℕ) → IsFront f → f.first ≤ number → number < f.first + 100 → low ≡ number - f.first →
    drop f.from f.text ++ (48 + low / 10) ∷ (48 + low % 10) ∷ rest ≡ decimal number ++ rest
front_number f number low rest is lo hi l =
    let first = f.first in
    let hundreds = is.hundreds in
    let whole = is.whole in
    let fits = is.numbers in
    let above : number / 100 ≡ first / 100 = omega arith in
    let last : number % 100 ≡ low = omega arith in
    let digits : decimal number ≡ decimal (first / 100) ++ pair low = decimal_pair number (omega arith) (omega arith)
    ∙ ap (λ (k : ℕ). decimal k ++ pair (number % 100)) above ∙ ap (λ (k : ℕ). decimal (first / 100) ++ pair k) last in
    ap (λ (t : List ℕ). t ++ (pair low ++ rest)) is.text
    ∙ sym (append_assoc (decimal (first / 100)) (pair low) rest)
    ∙ ap (λ (t : List ℕ). t ++ rest) (sym digits)
