-- An answer's fields are one answer's.
use Rattle.std.proofs.Common.{◌≡◌, ℕ, List, [], ◌∷◌, ◌++◌, append_assoc, refl, ap, ◌∙◌, arith}
use Rattle.std.specs.Prelude.{decimal, codes}
use Rattle.std.proofs.lemmas.Fmt.{decimal_injective}
use Rattle.ft_types.specs.Text.{line, word}
use Rattle.ft_types.proofs.Texts.{word_same}
use Rattle.wire.specs.Fields.{spelling, fields_of}
use Rattle.wire.specs.Answers.{IsAnswer, answer_fields}
use Rattle.wire.specs.declared.answers.Answer.{Answer}
use Rattle.wire.proofs.Plain.{decimal_plain, word_plain, name_plain}
use Rattle.wire.proofs.Reading.{spelled}

pub answer_back : (harts : ℕ) (a : Answer) → IsAnswer harts a → fields_of (spelling (answer_fields a)) ≡ answer_fields a
answer_back harts a is = spelled (codes "term") _ (name_plain (codes "term") refl) (
  decimal_plain a.term (omega (arith, is.term.1)),
  (
    name_plain (codes "hart") refl,
    (
      decimal_plain a.output.hart (omega (arith, is.hart.1)),
      (
        name_plain (codes "number") refl,
        (
          decimal_plain a.output.number (omega (arith, is.number)),
          (
            name_plain (codes "step") refl,
            (decimal_plain a.output.step (omega (arith, is.step)), (name_plain (codes "word") refl, (word_plain a.output.word, tt))),
          ),
        ),
      ),
    ),
  ),
)

abbrev answer : ℕ → ℕ → ℕ → ℕ → ℕ → Answer
answer term hart number step w = record { term = term; output = record { hart = hart; number = number; step = step; word = w } }

pub answer_same : (harts : ℕ) (a b : Answer) → IsAnswer harts a → IsAnswer harts b → answer_fields a ≡ answer_fields b → a ≡ b
answer_same harts a b p q e =
    let terms : decimal a.term ≡ decimal b.term = cc in
    let harts_are : decimal a.output.hart ≡ decimal b.output.hart = cc in
    let numbers : decimal a.output.number ≡ decimal b.output.number = cc in
    let steps : decimal a.output.step ≡ decimal b.output.step = cc in
    let words : word a.output.word ≡ word b.output.word = cc in
    let term : a.term ≡ b.term = decimal_injective a.term b.term (omega (arith, p.term.1)) (omega (arith, q.term.1)) terms in
    let hart : a.output.hart ≡ b.output.hart =
    decimal_injective a.output.hart b.output.hart (omega (arith, p.hart.1)) (omega (arith, q.hart.1)) harts_are in
    let number : a.output.number ≡ b.output.number =
    decimal_injective a.output.number b.output.number (omega (arith, p.number)) (omega (arith, q.number)) numbers in
    let step : a.output.step ≡ b.output.step =
    decimal_injective a.output.step b.output.step (omega (arith, p.step)) (omega (arith, q.step)) steps in
    let value : a.output.word ≡ b.output.word = word_same a.output.word b.output.word p.word_is q.word_is words in
    ap (λ (t : ℕ). answer t a.output.hart a.output.number a.output.step a.output.word) term
    ∙ ap (λ (h : ℕ). answer b.term h a.output.number a.output.step a.output.word) hart
    ∙ ap (λ (n : ℕ). answer b.term b.output.hart n a.output.step a.output.word) number
    ∙ ap (λ (s : ℕ). answer b.term b.output.hart b.output.number s a.output.word) step
    ∙ ap (λ (w : ℕ). answer b.term b.output.hart b.output.number b.output.step w) value

-- what is written field by field
pub answer_spelled : (t h n s w : List ℕ) → ((((((((((codes "term" ++ 32 ∷ t) ++ 32 ∷ codes "hart") ++ 32 ∷ h) ++ 32 ∷ codes "number") ++ 32 ∷ n)
    ++ 32 ∷ codes "step") ++ 32 ∷ s) ++ 32 ∷ codes "word") ++ 32 ∷ w) ++ 10 ∷ [])
    ≡ line (spelling (codes "term" ∷ t ∷ codes "hart" ∷ h ∷ codes "number" ∷ n ∷ codes "step" ∷ s ∷ codes "word" ∷ w ∷ []))
answer_spelled t h n s w = simp append_assoc
