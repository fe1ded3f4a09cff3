-- What a client hears of the line of an answer.
use Rattle.std.proofs.Common.{◌≡◌, ◌⊎◌, inl, inr, ℕ, ◌+◌, ◌-◌, ◌<◌, ◌≤◌, ◌^◌, List, [], ◌∷◌, ◌++◌, length, take, refl, sym, ap, subst, ◌∙◌, arith, length-append}
use Rattle.std.specs.Prelude.{decimal, codes}
use Rattle.std.proofs.Math.Seq.{take-append_seam}
use Rattle.std.proofs.lemmas.Bool.{cases_lt}
use Rattle.std.proofs.lemmas.Fmt.{decimal_injective}
use Rattle.ft_types.specs.Text.{line, word}
use Rattle.ft_types.specs.declared.names.TheConstants.{COUNT_LIMIT, HART_LIMIT}
use Rattle.ft_types.proofs.Texts.{word_same}
use Rattle.asking.specs.Talks.{TalkView}
use Rattle.requests.specs.Asking.{heard, with_answer}
use Rattle.requests.specs.declared.asker.Heard.{Heard}
use Rattle.requests.specs.declared.asker.Heard.TheVariants.{New, Known, Contradiction, Foreign}
use Rattle.wire.specs.Answers.{IsAnswer, SaysAnswer, answer_fields, answer_text}
use Rattle.wire.specs.Fields.{spelling, fields_of}
use Rattle.wire.specs.declared.answers.Answer.{Answer}
use Rattle.wire.proofs.Plain.{decimal_plain, word_plain, name_plain}
use Rattle.wire.proofs.Reading.{spelled}
use Rattle.live_world.specs.Happenings.{HearsOne}

-- ---- the line's end

all_but_last : (text : List ℕ) → take (length (text ++ 10 ∷ []) - 1) (text ++ 10 ∷ []) ≡ text
all_but_last text =
    let end : length (text ++ 10 ∷ []) - 1 ≡ length text = omega (arith, length-append text (10 ∷ [])) in rw end (take-append_seam text (10 ∷ []))

pub before_break : (text bytes : List ℕ) → bytes ≡ line text → take (length bytes - 1) bytes ≡ text
before_break text bytes is = subst (λ (bs : List ℕ). take (length bs - 1) bs ≡ text) (sym is) (all_but_last text)

-- ---- whose line it is

-- numbers as they are kept
pub record IsKept (a : Answer) : Type 0 where
  pub term : a.term < 2 ^ 32
  pub hart : a.output.hart < HART_LIMIT
  pub number : a.output.number < 2 ^ 64
  pub step : a.output.step < 2 ^ 64
  pub word_is : a.output.word < 2 ^ 32

said_kept : (a : Answer) → IsAnswer HART_LIMIT a → IsKept a
said_kept a is = record { term = is.term.1; hart = is.hart.0; number = omega (arith, is.number); step = omega (arith, is.step); word_is = is.word_is }

back : (a : Answer) → IsKept a → fields_of (answer_text a) ≡ answer_fields a
back a is = spelled (codes "term") _ (name_plain (codes "term") refl) (
  decimal_plain a.term (omega (arith, is.term)),
  (
    name_plain (codes "hart") refl,
    (
      decimal_plain a.output.hart (omega (arith, is.hart)),
      (
        name_plain (codes "number") refl,
        (
          decimal_plain a.output.number is.number,
          (
            name_plain (codes "step") refl,
            (decimal_plain a.output.step is.step, (name_plain (codes "word") refl, (word_plain a.output.word, tt))),
          ),
        ),
      ),
    ),
  ),
)

-- what has the text of one that a line tells is told by that line
same_said : (a b : Answer) → IsKept a → IsAnswer HART_LIMIT b → answer_text a ≡ answer_text b → IsAnswer HART_LIMIT a
same_said a b is said same =
    let of_b = said_kept b said in
    let fields : answer_fields a ≡ answer_fields b = sym (back a is) ∙ ap fields_of same ∙ back b of_b in
    let terms : decimal a.term ≡ decimal b.term = cc in
    let numbers : decimal a.output.number ≡ decimal b.output.number = cc in
    let steps : decimal a.output.step ≡ decimal b.output.step = cc in
    let term : a.term ≡ b.term = decimal_injective a.term b.term (omega (arith, is.term)) (omega (arith, of_b.term)) terms in
    let number : a.output.number ≡ b.output.number = decimal_injective a.output.number b.output.number is.number of_b.number numbers in
    let step : a.output.step ≡ b.output.step = decimal_injective a.output.step b.output.step is.step of_b.step steps in
    record {
      term = (omega (arith, term, said.term.0), is.term);
      hart = (is.hart, is.hart);
      number = omega (arith, number, said.number);
      step = omega (arith, step, said.step);
      word_is = is.word_is;
    }

-- a line tells of it, or none does
may_say : (a : Answer) → IsKept a → IsAnswer HART_LIMIT a ⊎ (IsAnswer HART_LIMIT a → ⊥)
may_say a is =
    elim (cases_lt 0 a.term) [
      | inr zero ↦ inr (λ said. absurd (omega (arith, zero, said.term.0)))
      | inl granted ↦ elim (cases_lt a.output.number COUNT_LIMIT) [
        | inr more ↦ inr (λ said. absurd (omega (arith, more, said.number)))
        | inl number ↦ elim (cases_lt a.output.step COUNT_LIMIT) [
          | inr more ↦ inr (λ said. absurd (omega (arith, more, said.step)))
          | inl step ↦ inl (record { term = (granted, is.term); hart = (is.hart, is.hart); number = number; step = step; word_is = is.word_is })
        ]
      ]
    ]

is_new : (r : Heard) → (r ≡ New) ⊎ (r ≡ New → ⊥)
is_new New = inl refl
is_new Known = inr (λ e. absurd cc)
is_new Contradiction = inr (λ e. absurd cc)
is_new Foreign = inr (λ e. absurd cc)

-- ---- what is heard of it

module _ (a : Answer) (is : IsKept a) (t u : TalkView) (r : Heard) (text : List ℕ)
    (answer : (b : Answer) → SaysAnswer HART_LIMIT text b → r ≡ heard t.asker b.output)
    (new : (b : Answer) → SaysAnswer HART_LIMIT text b → r ≡ New → u ≡ record t { asker = with_answer t.asker b.output })
    (other : ((b : Answer) → SaysAnswer HART_LIMIT text b → ⊥) → r ≡ Foreign) (stays : (r ≡ New → ⊥) → u ≡ t)
    (of_answer : text ≡ answer_text a) where
  heard_said : IsAnswer HART_LIMIT a → (r ≡ New) ⊎ (r ≡ New → ⊥) → HearsOne a t u
  heard_said said (inl fresh) = inl (said, sym (answer a (said, of_answer)) ∙ fresh, new a (said, of_answer) fresh)
  heard_said said (inr stale) = inr ((λ again fresh. stale (answer a (said, of_answer) ∙ fresh)), stays stale)

  heard_unsaid : (IsAnswer HART_LIMIT a → ⊥) → HearsOne a t u
  heard_unsaid unsaid =
      let foreign : r ≡ Foreign = other (λ b says. unsaid (same_said a b is says.0 (sym of_answer ∙ says.1))) in
      inr ((λ said fresh. unsaid said), stays (λ e. absurd cc))

  pub hears_one : HearsOne a t u
  hears_one = elim (may_say a is) [ inl said ↦ heard_said said (is_new r) | inr unsaid ↦ heard_unsaid unsaid ]
