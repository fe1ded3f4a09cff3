-- An output that went out in a term.
use Rattle.std.specs.Prelude.{◌≡◌, ℕ, ◌<◌, ◌^◌, List, [], ◌∷◌, codes, decimal}
use Rattle.ft_types.specs.Counts.{IsCount}
use Rattle.ft_types.specs.Text.{word}
use Rattle.wire.specs.Fields.{spelling}
use Rattle.wire.specs.Values.{IsTerm, IsHart}
use Rattle.wire.specs.declared.answers.Answer.{Answer}

-- in a term that was granted, of a hart of a guest with so many harts
pub record IsAnswer (harts : ℕ) (a : Answer) : Type 0 where
  pub term : IsTerm a.term
  pub hart : IsHart harts a.output.hart
  pub number : IsCount a.output.number
  pub step : IsCount a.output.step
  pub word_is : a.output.word < 2 ^ 32

-- term T hart H number K step N word V
abbrev pub answer_fields : Answer → List (List ℕ)
answer_fields a =
    codes "term" ∷ decimal a.term ∷ codes "hart" ∷ decimal a.output.hart ∷ codes "number" ∷ decimal a.output.number ∷
    codes "step" ∷ decimal a.output.step ∷ codes "word" ∷ word a.output.word ∷ []

-- the fields are this answer
abbrev pub HasAnswer : ℕ → List (List ℕ) → Answer → Type 0
HasAnswer harts fields a = IsAnswer harts a × (fields ≡ answer_fields a)

abbrev pub answer_text : Answer → List ℕ
answer_text a = spelling (answer_fields a)

abbrev pub SaysAnswer : ℕ → List ℕ → Answer → Type 0
SaysAnswer harts text a = IsAnswer harts a × (text ≡ answer_text a)
