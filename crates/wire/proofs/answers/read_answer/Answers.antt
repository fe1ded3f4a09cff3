use Rattle.std.proofs.Common.{ℕ, List, subst}
use Rattle.std.specs.Prelude.{IfSome, IfNone}
use Rattle.wire.specs.Answers.{IsAnswer, HasAnswer, answer_fields}
use Rattle.wire.specs.declared.answers.Answer.{Answer}
use Rattle.wire.proofs.Reading.{exact_spelled}
use Rattle.wire.proofs.AnswerFields.{answer_back, answer_same}
use Rattle.wire.proofs.answers.read_answer.Goals as goal

pub returns : goal.returns
returns c =
    let harts = c.args.harts in
    let r = c.answer_of.result in
    record {
      exact = exact_spelled c.args.text.now (IsAnswer harts) answer_fields r (answer_back harts) (answer_same harts)
          (subst (λ (fs : List (List ℕ)). IfSome r (λ a. HasAnswer harts fs a)) c.new.ensures c.answer_of.ensures.found)
          (subst (λ (fs : List (List ℕ)). IfNone r ((a : Answer) → HasAnswer harts fs a → ⊥)) c.new.ensures c.answer_of.ensures.none);
    }
